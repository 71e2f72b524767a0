use Rattle.std.proofs.Common.{Contains, []}
use Rattle.marker_nfa.specs.Parts.{Adds}
use Rattle.marker_nfa.proofs.Adding.{EachBefore}
use Rattle.span_algebra.specs.declared.joints.Half.{Half}
use Rattle.span_algebra.specs.Joints.{IsJointWith, left_key}
use Rattle.span_algebra.proofs.joints.joints_of.Given as goal

abbrev pub invariant-loop-left : goal.invariant-loop-left
invariant-loop-left l = Adds [] l.joints.items (EachBefore (λ m j. (h : Half) × Contains l.halves.items h × IsJointWith m (left_key l.meeting m) h j) l.lefts l.left-index)
