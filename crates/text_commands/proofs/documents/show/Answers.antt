use Rattle.text_commands.proofs.Names.{free_answers, refl, state_of, world}
use Rattle.text_commands.proofs.Facts.{show_carries}
use Rattle.text_commands.proofs.documents.show.Goals as goal

pub returns-in_ok-answer-in-Ok-clause-done : goal.returns-in_ok-answer-in-Ok-clause-done
returns-in_ok-answer-in-Ok-clause-done c = λ files faults looks pairs places.
    let h = c.args.session.now in
    free_answers h h.docs h.versions _ _ _ files _ _ _ _ _ _ c.requires c.requires.live c.requires.kept (λ no. no) (λ no. no) refl refl
    (show_carries (world (state_of h) files) _ c.args.name c.args.i c.args.j _ _ _ _ c.in-Ok.ensures.found.text refl c.in_ok-answer-in-Ok.ensures)

pub returns-in-Err-NoSuchDocument-clause-done : goal.returns-in-Err-NoSuchDocument-clause-done
returns-in-Err-NoSuchDocument-clause-done c = λ files faults looks pairs places.
    c.reject.ensures.done c.args.session.now _ files faults looks pairs places (record { session = c.requires; refused = rw c.in-Err-NoSuchDocument.ensures.missing refl; free = refl }) refl
