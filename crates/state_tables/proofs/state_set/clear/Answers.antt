use Rattle.std.proofs.Common.{arith}
use Rattle.state_tables.proofs.Words.{words-none}
use Rattle.state_tables.proofs.state_set.clear.Goals as goal

pub returns-clause-value : goal.returns-clause-value
returns-clause-value c = words-none c.loop-word.words (λ i lt. c.loop-word.invariant i (omega (arith, lt, c.loop-word-test.false, c.loop-word.auto.words)))
