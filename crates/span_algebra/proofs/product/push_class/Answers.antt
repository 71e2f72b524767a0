use Rattle.std.proofs.Common.{◌≡◌, ℕ, List, length, sym, subst, arith}
use Rattle.marker_nfa.proofs.Adding.{each_at, each_end}
use Rattle.span_algebra.specs.Joints.{AreShortWith}
use Rattle.span_algebra.specs.Products.{IsPairStepBy}
use Rattle.span_algebra.proofs.ProductLaws.{of-joints}
use Rattle.span_algebra.proofs.product.push_class.Goals as goal

pub joints_of-requires-clause-short : goal.joints_of-requires-clause-short
joints_of-requires-clause-short c = subst (λ (l : List ℕ). AreShortWith c.args.sides.meeting.now l) (sym c.marks-left_marks.ensures) (c.requires.short.marks c.args.pair.left c.args.class.now.first)

pub loop-joint-preserved : goal.loop-joint-preserved
loop-joint-preserved c = each_at c.args.steps.now.items c.loop-joint.steps.items c.push_step.new.steps.items (IsPairStepBy c.args.sides.left.now c.args.sides.right.now c.args.pair c.args.class.now) c.deref-joint-items.result.now c.loop-joint.joint-index _ c.loop-joint-test.true c.loop-joint.invariant c.in_ok-push_step.ensures

pub returns : goal.returns
returns c =
    let e : c.loop-joint.joint-index ≡ length c.deref-joint-items.result.now = omega (arith, c.loop-joint-test.false, c.loop-joint.auto.joint-index-end) in
    of-joints c.args.steps.now.items c.loop-joint.steps.items (IsPairStepBy c.args.sides.left.now c.args.sides.right.now c.args.pair c.args.class.now) c.deref-joint-items.result.now c.in_ok-joints.joints.items c.args.sides.meeting.now c.marks-left_marks.result.now c.marks-right_marks.result.now _ _ c.deref-joint-items.ensures.value c.in_ok-joints.ensures c.marks-left_marks.ensures c.marks-right_marks.ensures
    (each_end c.args.steps.now.items c.loop-joint.steps.items (IsPairStepBy c.args.sides.left.now c.args.sides.right.now c.args.pair c.args.class.now) c.deref-joint-items.result.now _ e c.loop-joint.invariant)
