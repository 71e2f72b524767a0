-- Where a table is searched: first by the lower half of its digest, and then by bits.
use Rattle.std.specs.Prelude.{ℕ, ◌-◌, ◌/◌, ◌%◌, nat_lt, List, bit_and, if◌then◌else◌}
use Rattle.std.specs.Int.{bit_at}
use Rattle.state_tables.specs.Table.{Row, row_at}
use Rattle.state_tables.specs.Coded.{code_of}
use Rattle.state_tables.specs.Digest.{digest_of}

-- the bucket of the table, of `roots` many
unfoldable pub root_of : ℕ → List Row → ℕ
root_of roots t = bit_and (digest_of t) (roots - 1)

-- a bit of a row, which has 1,040
abbrev pub row_bit : Row → ℕ → ℕ
row_bit row index = if nat_lt index 1024 then bit_at row.marked index else bit_at (code_of row.unmarked) (index - 1024)

-- a bit of the concatenated rows
abbrev pub rows_bit : List Row → ℕ → ℕ
rows_bit t index = row_bit (row_at t (index / 1040)) (index % 1040)

-- the bit that chooses the branch at this depth: the upper half of the digest from its highest bit on, and then the
-- rows
unfoldable pub branch_of : List Row → ℕ → ℕ
branch_of t depth = if nat_lt depth 64 then bit_at (digest_of t) (127 - depth) else rows_bit t (depth - 64)
