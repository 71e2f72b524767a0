use Rattle.std.proofs.Common.{◌<◌, length, get_or, arith}
use Rattle.distinct_items.proofs.Marks.{marked-more}
use Rattle.distinct_items.proofs.renumbering.mark_used.Goals as goal

pub loop-number-preserved : goal.loop-number-preserved
loop-number-preserved c =
    let at = c.loop-number in
    let low : get_or c.args.numbers.now at.number-index 0 < length at.marks = omega (arith, c.requires at.number-index 0 c.loop-number-test.true, at.auto.marks, c.clear.auto.marks) in
    marked-more c.args.numbers.now at.number-index at.marks c.loop-number-test.true low at.invariant
