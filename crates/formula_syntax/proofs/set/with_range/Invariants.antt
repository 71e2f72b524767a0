use Rattle.std.proofs.Common.{◌≡◌, ℕ, List}
use Rattle.std.specs.Prelude.{◌||◌}
use Rattle.formula_syntax.specs.Lexis.{bytes_where, in_ranges}
use Rattle.formula_syntax.proofs.Bytes.{in_part}
use Rattle.formula_syntax.proofs.set.with_range.Given as goal

abbrev pub invariant-loop-byte : goal.invariant-loop-byte
invariant-loop-byte l = (rs : List (ℕ × ℕ)) → l.fn.set ≡ bytes_where (in_ranges rs) → l.members ≡ bytes_where (λ c. in_ranges rs c || in_part l.low l.byte c)
