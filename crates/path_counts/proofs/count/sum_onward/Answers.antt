use Rattle.std.proofs.Common.{arith}
use Rattle.path_counts.specs.declared.count.Count.{Count}
use Rattle.path_counts.proofs.Adding.{onward-end, onward-step}
use Rattle.path_counts.proofs.count.sum_onward.Goals as goal

pub loop-count-preserved : goal.loop-count-preserved
loop-count-preserved c =
    let d : Count = record { state = 0; number = 0 } in
    record {
      low = omega arith;
      whole = onward-step c.args.counts.now c.args.after.now c.loop-count.count-index c.loop-count.sum c.saturating_mul.result c.saturating_add-sum.result d c.loop-count-test.true c.saturating_mul.ensures c.saturating_add-sum.ensures c.loop-count.invariant.whole;
    }

pub returns : goal.returns
returns c = onward-end c.args.counts.now c.args.after.now c.loop-count.count-index c.loop-count.sum c.loop-count-test.false c.loop-count.invariant.low c.loop-count.invariant.whole
