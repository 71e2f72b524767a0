-- Sets of states that are stored once, as their words.
use Rattle.std.specs.Prelude.{ℕ, ◌-◌, ◌/◌, ◌%◌, nat_lt, List, slice_index_or, bit_and, if◌then◌else◌}
use Rattle.std.specs.Int.{bit_at}
use Rattle.state_tables.specs.Digest.{set_digest}

-- the bucket of the words, of `roots` many
unfoldable pub set_root : ℕ → List ℕ → ℕ
set_root roots words = bit_and (set_digest words) (roots - 1)

-- the bit that chooses the branch at this depth: the upper half of the digest from its highest bit on, and then the words
unfoldable pub set_branch : List ℕ → ℕ → ℕ
set_branch words depth = if nat_lt depth 64 then bit_at (set_digest words) (127 - depth) else bit_at (slice_index_or words ((depth - 64) / 64) 0) ((depth - 64) % 64)
