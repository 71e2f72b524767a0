-- The new numbers of kept nodes.
use Rattle.std.proofs.Common.{◌≡◌, ℕ, zero, suc, ◌+◌, ◌-◌, ◌<◌, ◌≤◌, inl, inr, Bool, true, false, cond, List, [], ◌∷◌, ◌++◌, length, get_or, slice_get, take, Some, refl, ap, sym, subst, ◌∙◌, arith}
use Rattle.std.proofs.lemmas.Bool.{cases_lt}
use Rattle.slp_model.specs.declared.Node.{Node}
use Rattle.slp_model.specs.Kept.{Keeps}
use Rattle.slp_model.specs.Thin.{rank, kept_of}

-- one more index
rank-next : (ks : List Bool) (i : ℕ) → rank ks (suc i) ≡ rank ks i + cond (get_or ks i false) 1 0
rank-next [] zero = refl
rank-next [] (suc i) = refl
rank-next (b ∷ bs) zero = omega arith
rank-next (b ∷ bs) (suc i) = omega (arith, rank-next bs i)

pub rank-kept : (ks : List Bool) (i : ℕ) → Keeps ks i → rank ks (suc i) ≡ rank ks i + 1
rank-kept ks i h = rank-next ks i ∙ ap (λ b. rank ks i + cond b 1 0) h

pub rank-other : (ks : List Bool) (i : ℕ) → get_or ks i false ≡ false → rank ks (suc i) ≡ rank ks i
rank-other ks i h = let e : rank ks (suc i) ≡ rank ks i + 0 = rank-next ks i ∙ ap (λ b. rank ks i + cond b 1 0) h in omega (arith, e)

pub rank-most : (ks : List Bool) (i : ℕ) → rank ks i ≤ i
rank-most ks zero = omega arith
rank-most ks (suc i) = omega (arith, rank-next ks i, rank-most ks i, bit (get_or ks i false))
  where
    bit : (b : Bool) → cond b 1 0 ≤ 1
    bit true = omega arith
    bit false = omega arith

rank-rises : (ks : List Bool) (i k : ℕ) → rank ks i ≤ rank ks (k + i)
rank-rises ks i zero = let e : zero + i ≡ i = omega arith in subst (λ n. rank ks i ≤ rank ks n) (sym e) (omega arith)
rank-rises ks i (suc k) =
    let e : suc k + i ≡ suc (k + i) = omega arith in
    subst (λ n. rank ks i ≤ rank ks n) (sym e) (omega (arith, rank-rises ks i k, rank-next ks (k + i)))

rank-up : (ks : List Bool) (i j : ℕ) → i ≤ j → rank ks i ≤ rank ks j
rank-up ks i j h = let e : (j - i) + i ≡ j = omega arith in subst (λ n. rank ks i ≤ rank ks n) e (rank-rises ks i (j - i))

-- a kept node has a lower number than any after it
pub rank-below : (ks : List Bool) (i j : ℕ) → Keeps ks i → i < j → rank ks i < rank ks j
rank-below ks i j h lt = omega (arith, rank-kept ks i h, rank-up ks (suc i) j (omega arith))

-- so no two of them have the same number
pub rank-apart : (ks : List Bool) (i j : ℕ) → Keeps ks i → Keeps ks j → rank ks i ≡ rank ks j → i ≡ j
rank-apart ks i j a b e = elim (cases_lt i j) [
  | inl lt ↦ absurd (omega (arith, rank-below ks i j a lt, e))
  | inr ge ↦ elim (cases_lt j i) [
    | inl gt ↦ absurd (omega (arith, rank-below ks j i b gt, e))
    | inr le ↦ omega (arith, ge, le)
  ]
]

pub kept-within : (ks : List Bool) (i : ℕ) → Keeps ks i → i < length ks
kept-within [] i h = cc
kept-within (b ∷ bs) zero h = omega arith
kept-within (b ∷ bs) (suc i) h = omega (arith, kept-within bs i h)

-- a kept node comes last of the kept ones up to it
pub kept-on : (ns : List Node) (ks : List Bool) (k : ℕ) (n : Node) → slice_get ns k ≡ Some n → Keeps ks k → kept_of (take (suc k) ns) ks ≡ kept_of (take k ns) ks ++ n ∷ []
kept-on [] ks k n at h = cc
kept-on (m ∷ ns) [] k n at h = cc
kept-on (m ∷ ns) (b ∷ bs) zero n at h = let e : m ≡ n = cc in (λ j. cond (h j) (m ∷ []) []) ∙ ap (λ x. x ∷ []) e
kept-on (m ∷ ns) (b ∷ bs) (suc k) n at h = by b (kept-on ns bs k n at h)
  where
    by : (c : Bool) → kept_of (take (suc k) ns) bs ≡ kept_of (take k ns) bs ++ n ∷ []
        → cond c (m ∷ kept_of (take (suc k) ns) bs) (kept_of (take (suc k) ns) bs) ≡ cond c (m ∷ kept_of (take k ns) bs) (kept_of (take k ns) bs) ++ n ∷ []
    by true rest = ap (λ xs. m ∷ xs) rest
    by false rest = rest

-- and another doesn't count
pub kept-skip : (ns : List Node) (ks : List Bool) (k : ℕ) → get_or ks k false ≡ false → kept_of (take (suc k) ns) ks ≡ kept_of (take k ns) ks
kept-skip [] ks zero h = refl
kept-skip [] ks (suc k) h = refl
kept-skip (m ∷ ns) [] zero h = refl
kept-skip (m ∷ ns) [] (suc k) h = refl
kept-skip (m ∷ ns) (b ∷ bs) zero h = λ j. cond (h j) (m ∷ []) []
kept-skip (m ∷ ns) (b ∷ bs) (suc k) h = λ j. cond b (m ∷ kept-skip ns bs k h j) (kept-skip ns bs k h j)
