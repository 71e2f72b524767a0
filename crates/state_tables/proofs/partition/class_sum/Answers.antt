use Rattle.std.proofs.Common.{◌*◌, ◌^◌, arith, get_or, refl, ◌∙◌}
use Rattle.state_tables.proofs.ClassWeights.{sum-more, sum-of_classes}
use Rattle.state_tables.proofs.partition.class_sum.Goals as goal

pub loop-class-init : goal.loop-class-init
loop-class-init c = refl

pub loop-class-preserved : goal.loop-class-preserved
loop-class-preserved c =
    let at = c.loop-class in
    sum-more (λ k. get_or c.args.weights.now k 0 * k) at.class at.sum (2 ^ 64) at.invariant

pub returns : goal.returns
returns c = λ classes has.
    let at = c.loop-class in
    at.invariant ∙ sum-of_classes (λ k. k) at.class classes c.args.weights.now has (omega (arith, at.auto.class-end)) (λ p lt. omega (arith, c.loop-class-test.false, has.within p lt))
