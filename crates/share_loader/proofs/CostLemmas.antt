-- Bounds on node constructions.
use Rattle.std.proofs.Common.{◌≡◌, ◌⊎◌, inl, inr, ℕ, ◌+◌, ◌*◌, ◌/◌, ◌≤◌, arith}
use Rattle.std.proofs.lemmas.Nat.{mul-le}
use Rattle.span_types.specs.Fibonacci.{fibonacci, height_limit}
use Rattle.span_types.proofs.LimitLemmas.{height_limit-right}
use Rattle.slp_model.specs.Tree.{Tree, leaves, height, IsBalanced}
use Rattle.slp_model.specs.Join.{join_cost}
use Rattle.slp_model.proofs.TreeLemmas.{height-by_leaves}
use Rattle.share_loader.specs.Blocks.{blocks_cost, all_cost}

-- more bytes allow no less height
pub limit-grows : (m n : ℕ) → m ≤ n → height_limit m ≤ height_limit n
limit-grows m n le = by (height_limit-right m).fits
  where
    by : (height_limit m ≡ 0) ⊎ (fibonacci (height_limit m + 2) ≤ m) → height_limit m ≤ height_limit n
    by (inl none) = omega (arith, none)
    by (inr fits) = (height_limit-right n).greatest (height_limit m) (omega (arith, fits, le))

-- one more word, of m of the n bytes that are left, and the end of a block of r bytes
pub word-cost : (before mid after symbols more m n r t : ℕ) → mid + 1 ≤ before + m → more ≡ symbols + 1 → after ≤ mid + more + 6 * height_limit r → m ≤ n → r ≡ t + m → after ≤ before + symbols + n + 6 * height_limit (t + n)
word-cost before mid after symbols more m n r t word len block within taken = omega (arith, word, len, block, within, limit-grows r (t + n) (omega (arith, taken, within)))

-- a block of r bytes, joined to the blocks before, which makes s bytes
pub ended-cost : (before mid after symbols r s t : ℕ) → mid + 1 ≤ before + symbols + height_limit r → after ≤ mid + 3 * height_limit s + 1 → r ≤ t → s ≤ t → after ≤ before + symbols + 6 * height_limit t
ended-cost before mid after symbols r s t block join within all = omega (arith, block, join, limit-grows r t within, limit-grows s t all)

pub join-limit : (a b : Tree) → IsBalanced a → IsBalanced b → join_cost (height a) (height b) ≤ 3 * height_limit (leaves a + leaves b) + 1
join-limit a b x y =
    omega (arith, height-by_leaves a x, height-by_leaves b y, limit-grows (leaves a) (leaves a + leaves b) (omega arith), limit-grows (leaves b) (leaves a + leaves b) (omega arith))

pub cost-grows : (r s m n : ℕ) → r ≤ s → m ≤ n → blocks_cost r m ≤ blocks_cost s n
unfolding blocks_cost
cost-grows r s m n a b = mul-le (r / 65536) (6 * height_limit m + 1) (s / 65536) (6 * height_limit n + 1) (omega arith) (omega (arith, limit-grows m n b))

more : (k c : ℕ) → (k + 1) * c ≡ k * c + c
more k c = grind arith

pub cost-block : (r s m n : ℕ) → r + 65536 ≤ s → m ≤ n → blocks_cost r m + 6 * height_limit n + 1 ≤ blocks_cost s n
unfolding blocks_cost
cost-block r s m n a b =
    omega (arith, mul-le (r / 65536) (6 * height_limit m + 1) (r / 65536) (6 * height_limit n + 1) (omega arith) (omega (arith, limit-grows m n b)), more (r / 65536) (6 * height_limit n + 1), mul-le (r / 65536 + 1) (6 * height_limit n + 1) (s / 65536) (6 * height_limit n + 1) (omega arith) (omega arith))

pub cost-all : (r m n : ℕ) → r ≤ n → m ≤ n → blocks_cost r m + 6 * height_limit n + 1 ≤ all_cost n
unfolding blocks_cost all_cost
cost-all r m n a b =
    omega (arith, mul-le (r / 65536) (6 * height_limit m + 1) (n / 65536) (6 * height_limit n + 1) (omega arith) (omega (arith, limit-grows m n b)), more (n / 65536) (6 * height_limit n + 1))

pub cost-none : (n : ℕ) → blocks_cost 0 n ≡ 0
unfolding blocks_cost
cost-none n = omega arith

pub all-grows : (m n : ℕ) → m ≤ n → all_cost m ≤ all_cost n
unfolding all_cost
all-grows m n le = mul-le (m / 65536 + 1) (6 * height_limit m + 1) (n / 65536 + 1) (6 * height_limit n + 1) (omega arith) (omega (arith, limit-grows m n le))
