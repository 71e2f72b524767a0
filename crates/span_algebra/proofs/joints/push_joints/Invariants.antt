use Rattle.std.proofs.Common.{◌≡◌}
use Rattle.marker_nfa.specs.Parts.{Adds}
use Rattle.marker_nfa.proofs.Adding.{EachBefore}
use Rattle.span_algebra.specs.declared.joints.Half.{Half}
use Rattle.span_algebra.specs.declared.joints.Joint.{Joint}
use Rattle.span_algebra.specs.Joints.{joint_by}
use Rattle.span_algebra.proofs.joints.push_joints.Given as goal

abbrev pub invariant-loop-half : goal.invariant-loop-half
invariant-loop-half l = Adds l.fn.joints.items l.joints.items (EachBefore (λ (h : Half) (j : Joint). j ≡ joint_by l.left h) l.found l.half-index)
