use Rattle.std.proofs.Common.{◌≡◌, []}
use Rattle.marker_nfa.specs.Parts.{Adds}
use Rattle.marker_nfa.proofs.Adding.{EachBefore}
use Rattle.span_algebra.specs.Joints.{half_by}
use Rattle.span_algebra.proofs.joints.halves_of.Given as goal

abbrev pub invariant-loop-mark : goal.invariant-loop-mark
invariant-loop-mark l = Adds [] l.halves.items (EachBefore (λ m h. h ≡ half_by l.meeting m) l.marks l.mark-index)
