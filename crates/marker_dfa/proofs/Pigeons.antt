-- More numbers than places don't fit.
use Rattle.std.proofs.Common.{◌≡◌, ℕ, zero, suc, ◌<◌, ◌≤◌, ◌==◌, true, false, ◌⊎◌, inl, inr, sym, ap, subst, ◌∙◌, arith, if◌then◌else◌}
use Rattle.std.proofs.lemmas.Bool.{cases_lt}
use Rattle.std.proofs.lemmas.Bool.Decides.{eqb_tells}

no_fit : (n : ℕ) (f : ℕ → ℕ) → ((i : ℕ) → i ≤ n → f i < n) → ((i j : ℕ) → i ≤ n → j ≤ n → f i ≡ f j → i ≡ j) → ⊥
no_fit zero f small one = let l : f 0 < 0 = small 0 (omega arith) in omega (arith, l)
no_fit (suc n) f small one = no_fit n (λ i. if f i == n then f (suc n) else f i) small' one'
  where
    is_last : (i : ℕ) → f i == n ≡ true → (if f i == n then f (suc n) else f i) ≡ f (suc n)
    is_last i e = ap (λ b. if b then f (suc n) else f i) e

    is_other : (i : ℕ) → f i == n ≡ false → (if f i == n then f (suc n) else f i) ≡ f i
    is_other i e = ap (λ b. if b then f (suc n) else f i) e

    top : (i : ℕ) → i ≤ n → f i ≡ f (suc n) → ⊥
    top i le e = let q : i ≡ suc n = one i (suc n) (omega (arith, le)) (omega arith) e in omega (arith, q, le)

    below : (x : ℕ) → x < suc n → (x ≡ n → ⊥) → x < n
    below x l ne = go (cases x l)
      where
        cases : (x : ℕ) → x < suc n → (x < n) ⊎ (x ≡ n)
        cases x l = grind arith

        go : (x < n) ⊎ (x ≡ n) → x < n
        go (inl k) = k
        go (inr e) = absurd (ne e)

    small_by : (i : ℕ) → i ≤ n → ((f i == n ≡ true) × (f i ≡ n)) ⊎ ((f i == n ≡ false) × (f i ≡ n → ⊥)) → (if f i == n then f (suc n) else f i) < n
    small_by i le (inl e) = let k = below (f (suc n)) (small (suc n) (omega arith)) (λ q. top i le (e.1 ∙ sym q)) in omega (arith, k, is_last i e.0)
    small_by i le (inr e) = let k = below (f i) (small i (omega (arith, le))) e.1 in omega (arith, k, is_other i e.0)

    small' : (i : ℕ) → i ≤ n → (if f i == n then f (suc n) else f i) < n
    small' i le = small_by i le (eqb_tells (f i) n)

    one_by : (i j : ℕ) → i ≤ n → j ≤ n → (if f i == n then f (suc n) else f i) ≡ (if f j == n then f (suc n) else f j) → ((f i == n ≡ true) × (f i ≡ n)) ⊎ ((f i == n ≡ false) × (f i ≡ n → ⊥)) → ((f j == n ≡ true) × (f j ≡ n)) ⊎ ((f j == n ≡ false) × (f j ≡ n → ⊥)) → i ≡ j
    one_by i j li lj e (inl x) (inl y) = one i j (omega (arith, li)) (omega (arith, lj)) (x.1 ∙ sym y.1)
    one_by i j li lj e (inl x) (inr y) = absurd (top j lj (sym (sym (is_last i x.0) ∙ e ∙ is_other j y.0)))
    one_by i j li lj e (inr x) (inl y) = absurd (top i li (sym (is_other i x.0) ∙ e ∙ is_last j y.0))
    one_by i j li lj e (inr x) (inr y) = one i j (omega (arith, li)) (omega (arith, lj)) (sym (is_other i x.0) ∙ e ∙ is_other j y.0)

    one' : (i j : ℕ) → i ≤ n → j ≤ n → (if f i == n then f (suc n) else f i) ≡ (if f j == n then f (suc n) else f j) → i ≡ j
    one' i j li lj e = one_by i j li lj e (eqb_tells (f i) n) (eqb_tells (f j) n)

-- a partner of each number below n, as a function
pub function_of : (n : ℕ) (R : ℕ → ℕ → Type 0) → ((o : ℕ) → o < n → (u : ℕ) × R o u) → (f : ℕ → ℕ) × ((o : ℕ) → o < n → R o (f o))
function_of n R right = ((λ o. pick o (cases_lt o n)), λ o lt. is o (cases_lt o n) lt)
  where
    pick : (o : ℕ) → (o < n) ⊎ (n ≤ o) → ℕ
    pick o (inl lt) = (right o lt).0
    pick o (inr le) = 0

    is : (o : ℕ) (c : (o < n) ⊎ (n ≤ o)) → o < n → R o (pick o c)
    is o (inl lt) own = (right o lt).1
    is o (inr le) lt = absurd (omega (arith, le, lt))

-- numbers below n whose partners are below k, each with another, are no more than k
pub fits : (n k : ℕ) (R : ℕ → ℕ → Type 0) → ((o : ℕ) → o < n → (u : ℕ) × R o u) → ((o u : ℕ) → R o u → u < k) → ((o p u : ℕ) → R o u → R p u → o ≡ p) → n ≤ k
fits n k R right below one = by (cases_lt k n) (function_of n R right)
  where
    by : (k < n) ⊎ (n ≤ k) → (f : ℕ → ℕ) × ((o : ℕ) → o < n → R o (f o)) → n ≤ k
    by (inr le) f = le
    by (inl lt) f =
        absurd (no_fit k f.0 (λ i le. below i (f.0 i) (f.1 i (omega (arith, le, lt))))
        (λ i j li lj same. one i j (f.0 j) (subst (λ (u : ℕ). R i u) same (f.1 i (omega (arith, li, lt)))) (f.1 j (omega (arith, lj, lt)))))
