use Rattle.std.proofs.Common.{◌*◌, ◌%◌, ◌^◌, ◌+◌, ap, arith, get_or, refl, ◌∙◌}
use Rattle.state_tables.specs.Coded.{coded_at, row_in}
use Rattle.state_tables.specs.Digest.{row_number}
use Rattle.state_tables.proofs.ClassWeights.{sum-more, sum-of_classes}
use Rattle.state_tables.proofs.row_set.sum_by_classes.Goals as goal

pub loop-class-init : goal.loop-class-init
loop-class-init c = refl

pub loop-class-preserved : goal.loop-class-preserved
loop-class-preserved c =
    let at = c.loop-class in
    let w = get_or c.args.weights.now at.class 0 in
    ap (λ n. (at.sum + w * n % 2 ^ 64) % 2 ^ 64) c.number_at.ensures
    ∙ sum-more (λ k. get_or c.args.weights.now k 0 * row_number c.args.sets.now.width (row_in c.args.sets.now.sets (coded_at c.args.rows.now k))) at.class at.sum (2 ^ 64) at.invariant

pub returns : goal.returns
returns c = λ classes has within.
    let at = c.loop-class in
    at.invariant
    ∙ sum-of_classes (λ k. row_number c.args.sets.now.width (row_in c.args.sets.now.sets (coded_at c.args.rows.now k))) at.class classes c.args.weights.now has (omega (arith, at.auto.class-end, c.min-class-end.ensures))
    (λ p lt. omega (arith, c.loop-class-test.false, c.min-class-end.ensures, has.within p lt, within p lt))
