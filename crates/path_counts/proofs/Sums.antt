-- Sums over a list, and over the numbers below a bound.
use Rattle.std.proofs.Common.{◌≡◌, ℕ, zero, suc, ◌+◌, ◌*◌, ◌<◌, ◌≤◌, ◌==◌, List, [], ◌∷◌, length, refl, sym, ap, ◌∙◌, arith, inl, inr, zero-add, AllPairs, Contains, Some}
use Rattle.std.specs.Prelude.{if◌then◌else◌}
use Rattle.std.specs.List.{flat_map}
use Rattle.std.proofs.lemmas.List.{length-append}
use Rattle.std.proofs.lemmas.Bool.Decides.{eqb_tells}
use Rattle.path_counts.specs.Counting.{hits}
use Rattle.path_counts.proofs.Lists.{contains-none, contains-cases, contains-here, pairs-head, pairs-tail}

-- ---- over a list
abbrev pub add_up : {X : Type 0} → (X → ℕ) → List X → ℕ
add_up f [] = 0
add_up f (x ∷ xs) = f x + add_up f xs

pub add-ext : {X : Type 0} (f g : X → ℕ) (xs : List X) → ((x : X) → f x ≡ g x) → add_up f xs ≡ add_up g xs
add-ext f g [] e = refl
add-ext f g (x ∷ xs) e = omega (arith, e x, add-ext f g xs e)

pub add-both : {X : Type 0} (f g : X → ℕ) (xs : List X) → add_up (λ x. f x + g x) xs ≡ add_up f xs + add_up g xs
add-both f g [] = refl
add-both f g (x ∷ xs) = omega (arith, add-both f g xs)

pub add-times : {X : Type 0} (f : X → ℕ) (n : ℕ) (xs : List X) → add_up (λ x. f x * n) xs ≡ add_up f xs * n
add-times f n [] = omega arith
add-times f n (x ∷ xs) = omega (arith, add-times f n xs)

pub length-pieces : {X Y : Type 0} (f : X → List Y) (xs : List X) → length (flat_map f xs) ≡ add_up (λ x. length (f x)) xs
length-pieces f [] = refl
length-pieces f (x ∷ xs) = omega (arith, length-append (f x) (flat_map f xs), length-pieces f xs)

-- the term of the number 0, which is in the falling list
pub add-once : (n : ℕ) (ms : List ℕ) → AllPairs (λ x y. y < x) ms → Contains ms 0 → add_up (λ m. if m == 0 then n else 0) ms ≡ n
add-once n [] h c = absurd (contains-none 0 c)
add-once n (m ∷ []) h c = elim (contains-cases m [] 0 c) [
  | inl e ↦ rw e (omega arith)
  | inr none ↦ absurd (contains-none 0 none)
]
add-once n (m ∷ k ∷ ms) h c =
    let below : k < m = pairs-head (λ x y. y < x) m (k ∷ ms) k h (contains-here k ms) in
    elim (eqb_tells m 0) [
      | inl e ↦ absurd (omega (arith, e.1, below))
      | inr e ↦
          let rest : Contains (k ∷ ms) 0 = elim (contains-cases m (k ∷ ms) 0 c) [ inl same ↦ absurd (e.1 same) | inr more ↦ more ] in
          ap (λ b. (if b then n else 0) + add_up (λ m. if m == 0 then n else 0) (k ∷ ms)) e.0 ∙ zero-add _ ∙ add-once n (k ∷ ms) (pairs-tail (λ x y. y < x) m (k ∷ ms) h) rest
    ]

pub add-zeros : {X : Type 0} (xs : List X) → add_up (λ x. 0) xs ≡ 0
add-zeros [] = refl
add-zeros (x ∷ xs) = omega (arith, add-zeros xs)

-- ---- over the numbers below n
abbrev pub total : ℕ → (ℕ → ℕ) → ℕ
total zero f = 0
total (suc n) f = total n f + f n

pub total-ext : (n : ℕ) (f g : ℕ → ℕ) → ((r : ℕ) → r < n → f r ≡ g r) → total n f ≡ total n g
total-ext zero f g e = refl
total-ext (suc n) f g e = omega (arith, total-ext n f g (λ r lt. e r (omega (arith, lt))), e n (omega arith))

pub total-both : (n : ℕ) (f g : ℕ → ℕ) → total n (λ r. f r + g r) ≡ total n f + total n g
total-both zero f g = refl
total-both (suc n) f g = omega (arith, total-both n f g)

pub total-zero : (n : ℕ) (f : ℕ → ℕ) → total n (λ r. 0 * f r) ≡ 0
total-zero zero f = refl
total-zero (suc n) f = omega (arith, total-zero n f)

-- a sum over a list of sums
pub total-swap : {X : Type 0} (n : ℕ) (f : X → ℕ → ℕ) (xs : List X) → add_up (λ x. total n (f x)) xs ≡ total n (λ r. add_up (λ x. f x r) xs)
total-swap n f [] = sym (zeros n)
  where
    zeros : (n : ℕ) → total n (λ r. 0) ≡ 0
    zeros zero = refl
    zeros (suc n) = omega (arith, zeros n)
total-swap n f (x ∷ xs) = ap (λ k. total n (f x) + k) (total-swap n f xs) ∙ sym (total-both n (f x) (λ r. add_up (λ y. f y r) xs))

hits-other : (p r : ℕ) → (p ≡ r → ⊥) → hits (Some p) r ≡ 0
hits-other p r ne = elim (eqb_tells p r) [ inl e ↦ absurd (ne e.1) | inr e ↦ ap (λ b. if b then 1 else 0) e.0 ]

pub hits-same : (p : ℕ) → hits (Some p) p ≡ 1
hits-same p = elim (eqb_tells p p) [ inl e ↦ ap (λ b. if b then 1 else 0) e.0 | inr e ↦ absurd (e.1 refl) ]

past-hit : (n p : ℕ) (f : ℕ → ℕ) → n ≤ p → total n (λ r. hits (Some p) r * f r) ≡ 0
past-hit zero p f le = refl
past-hit (suc n) p f le =
    let none : hits (Some p) n ≡ 0 = hits-other p n (λ e. omega (arith, e, le)) in
    ap (λ k. total n (λ r. hits (Some p) r * f r) + k * f n) none ∙ omega (arith, past-hit n p f (omega (arith, le)))

-- only the term of p counts
pub total-hit : (n p : ℕ) (f : ℕ → ℕ) → p < n → total n (λ r. hits (Some p) r * f r) ≡ f p
total-hit zero p f lt = absurd (omega (arith, lt))
total-hit (suc n) p f lt = elim (eqb_tells p n) [
  | inl e ↦
      let one : hits (Some p) n ≡ 1 = ap (λ b. if b then 1 else 0) e.0 in
      ap (λ k. total n (λ r. hits (Some p) r * f r) + k * f n) one ∙ omega (arith, past-hit n p f (omega (arith, e.1)), ap f e.1)
  | inr e ↦
      let none : hits (Some p) n ≡ 0 = ap (λ b. if b then 1 else 0) e.0 in
      let lower : p < n = grind (arith, lt, e.1) in
      ap (λ k. total n (λ r. hits (Some p) r * f r) + k * f n) none ∙ omega (arith, total-hit n p f lower)
]
