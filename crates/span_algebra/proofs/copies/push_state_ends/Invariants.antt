use Rattle.marker_nfa.specs.Parts.{Adds}
use Rattle.marker_nfa.proofs.Adding.{EachBefore}
use Rattle.span_algebra.specs.Making.{IsEndBy}
use Rattle.span_algebra.proofs.copies.push_state_ends.Given as goal

abbrev pub invariant-loop-mark : goal.invariant-loop-mark
invariant-loop-mark l = Adds l.fn.ends.items l.ends.items (EachBefore (IsEndBy l.copy.places.now l.from) l.mark-items l.mark-index)
