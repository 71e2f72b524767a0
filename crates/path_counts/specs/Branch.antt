-- Where a table is searched for: first by its whole digest, and then by the digest's bits.
use Rattle.std.specs.Prelude.{ℕ, ◌-◌, ◌%◌, List}
use Rattle.std.specs.Int.{bit_at}
use Rattle.path_counts.specs.Counting.{CountRow}
use Rattle.path_counts.specs.Digest.{digest_of}

-- the bucket, of `roots` buckets
unfoldable pub root_of : ℕ → List CountRow → ℕ
root_of roots t = digest_of t % roots

-- the bit that chooses the way at this depth, from the highest one on
unfoldable pub branch_of : List CountRow → ℕ → ℕ
branch_of t depth = bit_at (digest_of t) (63 - depth % 64)
