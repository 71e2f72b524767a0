use Rattle.std.proofs.Common.{◌≡◌, length}
use Rattle.query_tests.proofs.algebra.union_of_letters.Given as goal

abbrev pub invariant-loop-letter : goal.invariant-loop-letter
invariant-loop-letter l = length l.whole.names ≡ l.whole.dfa.variables
