use Rattle.std.proofs.Common.{arith}
use Rattle.state_tables.proofs.Words.{words-or}
use Rattle.state_tables.proofs.state_set.put_union.Goals as goal

pub returns-clause-value : goal.returns-clause-value
returns-clause-value c =
    let at = c.loop-index in
    words-or at.words c.args.first.now c.args.second.now (omega (arith, at.invariant.width, c.requires.first)) (omega (arith, at.invariant.width, c.requires.second))
    (λ i. omega (arith, c.type_inv.first i)) (λ i. omega (arith, c.type_inv.second i)) (λ k lt. at.invariant.before k (omega (arith, lt, c.loop-index-test.false, at.auto.index-end, at.auto.words)))
