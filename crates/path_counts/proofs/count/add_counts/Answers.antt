use Rattle.std.proofs.Common.{◌<◌, length, arith, get_or}
use Rattle.path_counts.specs.declared.count.Count.{Count}
use Rattle.path_counts.proofs.Adding.{count-step, count-end}
use Rattle.path_counts.proofs.count.add_counts.Goals as goal

pub loop-count-preserved : goal.loop-count-preserved
loop-count-preserved c =
    let d : Count = record { state = 0; number = 0 } in
    let within : (get_or c.args.counts.now c.loop-count.count-index d).state < length c.loop-count.sums =
    omega (arith, c.loop-count.auto.sums, c.requires c.loop-count.count-index d c.loop-count-test.true) in
    record {
      low = λ q. omega (arith, c.type_inv.sums q);
      sum = λ q lt.
          let there : q < length c.loop-count.sums = omega (arith, lt, c.add.auto.sums) in
          count-step c.args.sums.now c.loop-count.sums c.add.new.sums c.args.counts.now c.loop-count.count-index c.args.times c.saturating_mul.result q d c.loop-count-test.true
          within c.saturating_mul.ensures c.add.ensures (c.loop-count.invariant.sum q there);
    }

pub returns : goal.returns
returns c = λ q lt.
    let there : q < length c.loop-count.sums = omega (arith, lt, c.loop-count.auto.sums) in
    count-end c.args.sums.now c.loop-count.sums c.args.counts.now c.loop-count.count-index c.args.times q c.loop-count-test.false (c.loop-count.invariant.low q) (c.loop-count.invariant.sum q there)
