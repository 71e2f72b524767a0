use Rattle.std.proofs.Common.{◌≡◌, [], length, refl, sym, arith}
use Rattle.marker_nfa.proofs.Adding.{each_step, each_end, from_none}
use Rattle.span_algebra.specs.Products.{IsPairStepOf}
use Rattle.span_algebra.proofs.product.steps_of.Goals as goal

pub loop-class-preserved : goal.loop-class-preserved
loop-class-preserved c = each_step [] c.loop-class.steps.items c.push_class.new.steps.items (IsPairStepOf c.args.sides.left.now c.args.sides.right.now c.args.sides.meeting.now c.args.pair) c.args.classes.now c.loop-class.class-index c.class-item.result c.loop-class-test.true (sym c.class-item.is) c.loop-class.invariant c.in_ok-push_class.ensures

pub returns : goal.returns
returns c =
    let n : c.loop-class.class-index ≡ length c.args.classes.now = omega (arith, c.loop-class-test.false, c.loop-class.auto.class-index-end) in
    from_none [] c.loop-class.steps.items _ refl (each_end [] c.loop-class.steps.items (IsPairStepOf c.args.sides.left.now c.args.sides.right.now c.args.sides.meeting.now c.args.pair) c.args.classes.now _ n c.loop-class.invariant)
