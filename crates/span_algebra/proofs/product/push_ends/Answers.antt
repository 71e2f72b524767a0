use Rattle.std.proofs.Common.{◌≡◌, ℕ, List, length, sym, subst, arith}
use Rattle.marker_nfa.proofs.Adding.{each_at, each_end}
use Rattle.span_algebra.specs.Joints.{AreShortWith}
use Rattle.span_algebra.specs.Products.{IsPairEndBy}
use Rattle.span_algebra.proofs.ProductLaws.{of-joints}
use Rattle.span_algebra.proofs.product.push_ends.Goals as goal

pub joints_of-requires-clause-short : goal.joints_of-requires-clause-short
joints_of-requires-clause-short c = subst (λ (l : List ℕ). AreShortWith c.args.sides.meeting.now l) (sym c.ends.ensures) (c.requires.short.ends c.args.pair.left)

pub loop-joint-preserved : goal.loop-joint-preserved
loop-joint-preserved c = each_at c.args.ends.now.items c.loop-joint.ends.items c.push_end.new.ends.items (IsPairEndBy c.args.index) c.deref-joint-items.result.now c.loop-joint.joint-index _ c.loop-joint-test.true c.loop-joint.invariant c.in_ok-push_end.ensures

pub returns : goal.returns
returns c =
    let e : c.loop-joint.joint-index ≡ length c.deref-joint-items.result.now = omega (arith, c.loop-joint-test.false, c.loop-joint.auto.joint-index-end) in
    of-joints c.args.ends.now.items c.loop-joint.ends.items (IsPairEndBy c.args.index) c.deref-joint-items.result.now c.in_ok-joints.joints.items c.args.sides.meeting.now c.ends.result.now c.ends-2.result.now _ _ c.deref-joint-items.ensures.value c.in_ok-joints.ensures c.ends.ensures c.ends-2.ensures
    (each_end c.args.ends.now.items c.loop-joint.ends.items (IsPairEndBy c.args.index) c.deref-joint-items.result.now _ e c.loop-joint.invariant)
