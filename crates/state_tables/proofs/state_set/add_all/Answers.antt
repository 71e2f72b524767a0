use Rattle.std.proofs.Common.{arith}
use Rattle.state_tables.proofs.Words.{words-or}
use Rattle.state_tables.proofs.state_set.add_all.Goals as goal

pub returns-clause-value : goal.returns-clause-value
returns-clause-value c =
    let at = c.loop-index in
    words-or at.words c.args.words.now c.args.others.now at.invariant.width (omega (arith, at.invariant.width, c.requires)) at.invariant.low
    (λ i. omega (arith, c.type_inv.others i)) (λ k lt. at.invariant.before k (omega (arith, lt, c.loop-index-test.false, at.auto.index-end, at.auto.words)))
