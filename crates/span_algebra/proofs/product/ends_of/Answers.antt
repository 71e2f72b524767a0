use Rattle.std.proofs.Common.{◌≡◌, [], length, arith}
use Rattle.std.proofs.lemmas.Option.{slice_get-get_or}
use Rattle.span_algebra.proofs.JointLists.{in-list}
use Rattle.span_algebra.proofs.ProductLaws.{ends-next, ends-all}
use Rattle.span_algebra.proofs.product.ends_of.Goals as goal

pub push_ends-requires-clause-within : goal.push_ends-requires-clause-within
push_ends-requires-clause-within c = c.requires.within _ (in-list c.args.pairs.now c.loop-index.index _ c.loop-index-test.true)

pub loop-index-preserved : goal.loop-index-preserved
loop-index-preserved c = ends-next c.args.sides.left.now c.args.sides.right.now c.args.sides.meeting.now c.args.pairs.now [] c.loop-index.ends.items c.push_ends.new.ends.items c.loop-index.index _ (slice_get-get_or c.args.pairs.now c.loop-index.index _ c.loop-index-test.true) c.loop-index.invariant c.in_ok-push_ends.ensures

pub returns : goal.returns
returns c =
    let e : c.loop-index.index ≡ length c.args.pairs.now = omega (arith, c.loop-index-test.false, c.loop-index.auto.index-end) in
    ends-all c.args.sides.left.now c.args.sides.right.now c.args.sides.meeting.now c.args.pairs.now c.loop-index.ends.items _ e c.loop-index.invariant
