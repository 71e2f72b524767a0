use Rattle.query_commands.proofs.Names.{at, MatchOption-at_none, queries_of}
use Rattle.query_commands.proofs.Facts.{made_there, passed_on, registered_answers, registered_stops, stays_freely}
use Rattle.query_commands.proofs.registering.register.Goals as goal

pub registered-requires : goal.registered-requires
registered-requires c = rw c.in_ok-kept.ensures (made_there c.args.session.now.book.states (queries_of c.args.session.now.book) _ c.args.name c.args.recipe (MatchOption-at_none _ _ c.in-None.is c.in_ok-refused.ensures.made).0)

pub returns-in_err-refused-clause-stopped : goal.returns-in_err-refused-clause-stopped
returns-in_err-refused-clause-stopped c = rw c.in_err-refused.ensures.made (stays_freely _ _ _ _ c.requires.session c.from_residual-in_err-refused.ensures.1)

pub returns-in_err-answer-in-None-clause-stopped : goal.returns-in_err-answer-in-None-clause-stopped
returns-in_err-answer-in-None-clause-stopped c = λ files faults looks pairs places.
    let h = c.args.session.now in
    passed_on _ _ c.from_residual-in_err-answer-in-None.ensures.1
    (registered_stops h _ _ c.args.name c.args.recipe files faults looks pairs places c.requires.session (c.make.ensures.serves h.store c.requires.session.serves) (MatchOption-at_none _ _ c.in-None.is c.in_ok-refused.ensures.made))

pub returns-in-None-clause-done : goal.returns-in-None-clause-done
returns-in-None-clause-done c = λ files faults looks pairs places.
    let h = c.args.session.now in
    let a = c.in_ok-answer-in-None in
    registered_answers h _ _ c.args.name c.args.recipe files faults looks pairs places c.requires.session (c.make.ensures.serves h.store c.requires.session.serves)
    (MatchOption-at_none _ _ c.in-None.is c.in_ok-refused.ensures.made) a.answer a.ensures.told (rw c.in_ok-kept.ensures at a.ensures.line)
