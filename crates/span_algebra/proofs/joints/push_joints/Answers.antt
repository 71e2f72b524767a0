use Rattle.std.proofs.Common.{◌≡◌, length, arith}
use Rattle.marker_nfa.proofs.Adding.{each_at, each_end}
use Rattle.span_algebra.specs.declared.joints.Half.{Half}
use Rattle.span_algebra.specs.declared.joints.Joint.{Joint}
use Rattle.span_algebra.specs.Joints.{joint_by}
use Rattle.span_algebra.proofs.JointLists.{in-list}
use Rattle.span_algebra.proofs.JointRanges.{of-found}
use Rattle.span_algebra.proofs.joints.push_joints.Goals as goal

pub push_joint-requires : goal.push_joint-requires
push_joint-requires c = c.requires.short _ ((c.halves_with-found.ensures _).0 (in-list c.halves_with-found.result.now c.loop-half.half-index _ c.loop-half-test.true)).0

pub loop-half-preserved : goal.loop-half-preserved
loop-half-preserved c = each_at _ _ _ (λ (h : Half) (j : Joint). j ≡ joint_by c.args.left h) c.halves_with-found.result.now c.loop-half.half-index _ c.loop-half-test.true c.loop-half.invariant c.in_ok-push_joint.ensures

pub returns : goal.returns
returns c =
    let e : c.loop-half.half-index ≡ length c.halves_with-found.result.now = omega (arith, c.loop-half-test.false, c.loop-half.auto.half-index-end) in
    of-found _ _ c.args.left c.args.key c.args.halves.now c.halves_with-found.result.now c.halves_with-found.ensures (each_end _ _ (λ (h : Half) (j : Joint). j ≡ joint_by c.args.left h) c.halves_with-found.result.now _ e c.loop-half.invariant)
