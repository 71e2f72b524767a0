-- A number of 64 bits made of a table, by which equal tables are found.
use Rattle.std.specs.Prelude.{◌≡◌, ℕ, ◌+◌, ◌*◌, ◌/◌, ◌%◌, ◌^◌, List, [], ◌∷◌, length, Option, Some, None, bit_xor}
use Rattle.path_counts.specs.declared.count.Count.{Count}
use Rattle.path_counts.specs.Counting.{CountRow, IsCountTableOf}

-- a digest joined with a number, times an odd constant: the upper half is then joined to the lower one
unfoldable pub mixed : ℕ → ℕ → ℕ
mixed digest n = bit_xor ((bit_xor digest n * 0x9e37_79b9_7f4a_7c15) % 2 ^ 64) ((bit_xor digest n * 0x9e37_79b9_7f4a_7c15) % 2 ^ 64 / 2 ^ 32)

-- a digest with some counts: 2^17 keeps their states apart from coded ones, which are below it
abbrev pub with_counts : ℕ → List Count → ℕ
with_counts digest [] = digest
with_counts digest (c ∷ cs) = with_counts (mixed (mixed digest (c.state + 2 ^ 17)) c.number) cs

-- 0 for no state, and else one more than the state
abbrev pub code_of : Option ℕ → ℕ
code_of None = 0
code_of (Some q) = q + 1

-- a digest with a row
abbrev pub with_row : ℕ → CountRow → ℕ
with_row digest row = with_counts (mixed digest (code_of row.unmarked)) row.counts

-- a digest with some rows
abbrev pub with_rows : ℕ → List CountRow → ℕ
with_rows digest [] = digest
with_rows digest (row ∷ rows) = with_rows (with_row digest row) rows

unfoldable pub digest_of : List CountRow → ℕ
digest_of t = with_rows 0 t

-- a table, and its digest
pub record IsDigested (t : List CountRow) (digest : ℕ) : Type 0 where
  pub shape : IsCountTableOf (length t) t
  pub digest_is : digest ≡ digest_of t
