-- The classes of the states, moved or read as bits.
use Rattle.std.proofs.Common.{◌≡◌, ℕ, ◌+◌, ◌-◌, ◌/◌, ◌%◌, ◌<◌, ◌≤◌, inl, inr, ap, sym, ◌∙◌, arith, List, get_or, cond, bit_or}
use Rattle.std.specs.Int.{bit_at}
use Rattle.std.specs.Int.Bits.{bit_xor}
use Rattle.std.proofs.lemmas.Bool.{cases_eq, lt-ltb, le-ltb}
use Rattle.std.proofs.lemmas.Nat.Bits.{bit_at_or, bit_at_xor, bit_at-lt, bit_at-zero, same_from_bits}
use Rattle.state_tables.specs.Partition.{partition_branch, partition_digest}

-- ---- bits
pub branch-of_digest : (classes : List ℕ) (depth : ℕ) → depth < 64 → partition_branch classes depth ≡ bit_at (partition_digest classes) (127 - depth)
unfolding partition_branch
branch-of_digest classes depth lt =
    ap (λ b. cond b (bit_at (partition_digest classes) (127 - depth)) (bit_at (get_or classes ((depth - 64) / 16) 0) ((depth - 64) % 16))) (lt-ltb depth 64 lt)

pub branch-of_classes : (classes : List ℕ) (depth : ℕ) → 64 ≤ depth → partition_branch classes depth ≡ bit_at (get_or classes ((depth - 64) / 16) 0) ((depth - 64) % 16)
unfolding partition_branch
branch-of_classes classes depth le =
    ap (λ b. cond b (bit_at (partition_digest classes) (127 - depth)) (bit_at (get_or classes ((depth - 64) / 16) 0) ((depth - 64) % 16))) (le-ltb depth 64 le)

-- ---- comparing
or-none : (a b : ℕ) → bit_or a b ≡ 0 → a ≡ 0
or-none a b e = same_from_bits a 0 (λ i. omega (arith, bit_at_or a b i, ap (λ n. bit_at n i) e, bit_at-zero i))

or-none_right : (a b : ℕ) → bit_or a b ≡ 0 → b ≡ 0
or-none_right a b e = same_from_bits b 0 (λ i. omega (arith, bit_at_or a b i, ap (λ n. bit_at n i) e, bit_at-zero i))

xor-none : (a b : ℕ) → bit_xor a b ≡ 0 → a ≡ b
xor-none a b e = same_from_bits a b (λ i. omega (arith, bit_at_xor a b i, ap (λ n. bit_at n i) e, bit_at-zero i, bit_at-lt a i, bit_at-lt b i))

xor-same : (a : ℕ) → bit_xor a a ≡ 0
xor-same a = same_from_bits (bit_xor a a) 0 (λ i. omega (arith, bit_at_xor a a i, bit_at-zero i))

-- no difference so far, nor in one more class
pub same-more : (cs os : List ℕ) (i d : ℕ) → (d ≡ 0 → (k : ℕ) → k < i → get_or cs k 0 ≡ get_or os k 0) → bit_or d (bit_xor (get_or cs i 0) (get_or os i 0)) ≡ 0
    → (k : ℕ) → k < i + 1 → get_or cs k 0 ≡ get_or os k 0
same-more cs os i d before e k lt = elim (cases_eq k i) [
  | inl here ↦ ap (λ n. get_or cs n 0) here ∙ xor-none (get_or cs i 0) (get_or os i 0) (or-none_right d _ e) ∙ ap (λ n. get_or os n 0) (sym here)
  | inr ne ↦ before (or-none d _ e) k (omega (arith, lt, ne))
]

pub no-difference : (cs os : List ℕ) (i d : ℕ) → cs ≡ os → d ≡ 0 → bit_or d (bit_xor (get_or cs i 0) (get_or os i 0)) ≡ 0
no-difference cs os i d same none =
    ap (λ n. bit_or n (bit_xor (get_or cs i 0) (get_or os i 0))) none ∙ ap (λ l. bit_or 0 (bit_xor (get_or cs i 0) (get_or l i 0))) (sym same)
    ∙ ap (bit_or 0) (xor-same (get_or cs i 0))
