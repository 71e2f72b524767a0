-- The classes of the states as they are stored.
use Rattle.std.specs.Prelude.{◌≡◌, ℕ, ◌-◌, ◌/◌, ◌%◌, ◌^◌, ◌<◌, nat_eq, nat_lt, List, length, slice_index_or, bit_and, if◌then◌else◌}
use Rattle.std.specs.Int.{bit_at}
use Rattle.state_tables.specs.Weights.{weighted}
use Rattle.state_tables.specs.Digest.{sum_digest}

-- the weight of class k: the sum of the weights of its states, modulo 2^64
abbrev pub class_weight : List ℕ → ℕ → ℕ
class_weight classes k = weighted (λ c. if nat_eq c k then 1 else 0) 0 classes % 2 ^ 64

-- the classes have these weights
pub record HasWeights (classes weights : List ℕ) : Type 0 where
  pub within : (p : ℕ) → p < length classes → slice_index_or classes p 0 < length weights
  pub weights_are : (k : ℕ) → k < length weights → slice_index_or weights k 0 ≡ class_weight classes k

-- the digest of the classes
unfoldable pub partition_digest : List ℕ → ℕ
partition_digest classes = sum_digest (weighted (λ c. c) 0 classes)

-- the bucket of the classes, of `roots` many
unfoldable pub partition_root : ℕ → List ℕ → ℕ
partition_root roots classes = bit_and (partition_digest classes) (roots - 1)

-- the bit that chooses the branch at this depth: the upper half of the digest from its highest bit on, and then 16 bits for
-- each state
unfoldable pub partition_branch : List ℕ → ℕ → ℕ
partition_branch classes depth = if nat_lt depth 64 then bit_at (partition_digest classes) (127 - depth) else bit_at (slice_index_or classes ((depth - 64) / 16) 0) ((depth - 64) % 16)
