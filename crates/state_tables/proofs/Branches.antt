-- The bits of a table.
use Rattle.std.proofs.Common.{◌≡◌, ℕ, ◌-◌, ◌<◌, ◌≤◌, ◌/◌, ◌%◌, inl, inr, ap, ◌∙◌, List, length, cond}
use Rattle.std.specs.Int.{bit_at}
use Rattle.std.proofs.lemmas.Bool.{lt-ltb, le-ltb, cases_lt}
use Rattle.std.proofs.lemmas.Nat.Bits.{bit_at-zero}
use Rattle.std.proofs.lemmas.List.{get_or_past}
use Rattle.state_tables.specs.Table.{Row, no_row}
use Rattle.state_tables.specs.Coded.{code_of}
use Rattle.state_tables.specs.Digest.{digest_of}
use Rattle.state_tables.specs.Branch.{branch_of, row_bit, rows_bit}

pub branch-digest : (t : List Row) (depth : ℕ) → depth < 64 → branch_of t depth ≡ bit_at (digest_of t) (127 - depth)
unfolding branch_of
branch-digest t depth lt = ap (λ b. cond b (bit_at (digest_of t) (127 - depth)) (rows_bit t (depth - 64))) (lt-ltb depth 64 lt)

pub branch-rows : (t : List Row) (depth : ℕ) → 64 ≤ depth → branch_of t depth ≡ rows_bit t (depth - 64)
unfolding branch_of
branch-rows t depth le = ap (λ b. cond b (bit_at (digest_of t) (127 - depth)) (rows_bit t (depth - 64))) (le-ltb depth 64 le)

pub row-bit-set : (row : Row) (index : ℕ) → index < 1024 → row_bit row index ≡ bit_at row.marked index
row-bit-set row index lt = ap (λ b. cond b (bit_at row.marked index) (bit_at (code_of row.unmarked) (index - 1024))) (lt-ltb index 1024 lt)

pub row-bit-code : (row : Row) (index : ℕ) → 1024 ≤ index → row_bit row index ≡ bit_at (code_of row.unmarked) (index - 1024)
row-bit-code row index le = ap (λ b. cond b (bit_at row.marked index) (bit_at (code_of row.unmarked) (index - 1024))) (le-ltb index 1024 le)

no-bit : (index : ℕ) → row_bit no_row index ≡ 0
no-bit index = elim (cases_lt index 1024) [
  | inl lt ↦ row-bit-set no_row index lt ∙ bit_at-zero index
  | inr ge ↦ row-bit-code no_row index ge ∙ bit_at-zero (index - 1024)
]

pub bit-past : (t : List Row) (index : ℕ) → length t ≤ index / 1040 → rows_bit t index ≡ 0
bit-past t index past = ap (λ r. row_bit r (index % 1040)) (get_or_past t (index / 1040) no_row past) ∙ no-bit (index % 1040)
