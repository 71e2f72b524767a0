use Rattle.text_commands.proofs.Names.{arith, inl, refl, rules, state_of, world}
use Rattle.script_syntax.specs.declared.form.Command.TheVariants as form
use Rattle.text_commands.proofs.Facts.{grown_answers, grown_stops, let_carries, let_paid, stays}
use Rattle.text_commands.proofs.documents.let_document.Goals as goal

pub returns-in_err-answer-in-Ok-clause-stopped : goal.returns-in_err-answer-in-Ok-clause-stopped
returns-in_err-answer-in-Ok-clause-stopped g c = λ files faults looks places.
    let s = c.assign in
    rw (← c.bytes.ensures) (grown_stops c.args.session.now s.new.store s.new.docs c.args.number (form.LetDoc c.args.name c.bytes.result.now) files files faults faults looks c.args.pairs.now s.new.pairs places c.requires s.ensures.grows refl _ c.from_residual.ensures.1
    c.in_err-answer-in-Ok.ensures.err (let_paid (world (state_of c.args.session.now) files) c.args.name _ c.in-Ok.tree looks _ _ c.in-Ok.ensures.ok s.ensures.cost) (omega arith))

pub returns-in-Ok-clause-done : goal.returns-in-Ok-clause-done
returns-in-Ok-clause-done g c = λ files faults looks places.
    let s = c.assign in
    let e = c.in_ok-answer-in-Ok.ensures in
    rw (← c.bytes.ensures) (grown_answers c.args.session.now s.new.store s.new.docs c.args.number (form.LetDoc c.args.name c.bytes.result.now) files files faults faults looks c.args.pairs.now s.new.pairs places c.requires s.ensures.grows refl _ e.live
    (λ no. no) (λ no. no) (let_paid (world (state_of c.args.session.now) files) c.args.name _ c.in-Ok.tree looks _ _ c.in-Ok.ensures.ok s.ensures.cost) refl
    (let_carries (state_of c.args.session.now) _ _ c.args.name _ c.in-Ok.tree _ _ _ files c.in-Ok.ensures.ok refl e.ok))

pub returns-in-Err-Syntax-clause-done : goal.returns-in-Err-Syntax-clause-done
returns-in-Err-Syntax-clause-done g c = λ files faults looks places.
    let none = c.in-Err-Syntax.ensures.syntax (search (rules, c.in-Err-Syntax.field-0-is)) in
    rw (← c.bytes.ensures) (c.reject.ensures.done c.args.session.now _ files faults looks c.args.pairs.now places (record { session = c.requires; refused = inl (none, refl); free = inl (none, refl) }) refl)

pub returns-clause-stopped : goal.returns-clause-stopped
returns-clause-stopped g c = λ files faults looks places. stays c.args.session.now c.args.number _ files faults looks c.args.pairs.now places c.requires
