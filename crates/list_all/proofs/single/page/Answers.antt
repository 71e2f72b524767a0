use Rattle.span_enum.proofs.Exists.{answers-exist}
use Rattle.list_all.proofs.single.page.Goals as goal

pub first_answers-requires-clause-list : goal.first_answers-requires-clause-list
first_answers-requires-clause-list g c = rw c.in_ok-answers.ensures.listing (answers-exist c.args.dfa.now c.states-states.ensures.automaton _ c.check_text.ensures.bytes c.check_text.ensures.short)
