-- The stored bytes of a line, at most 65,537.
use Rattle.std.proofs.Common.{◌≡◌, ℕ, zero, suc, ◌-◌, ◌≤◌, ◌<◌, true, false, List, [], ◌∷◌, ◌++◌, length, take, refl, sym, ◌∙◌, ap, subst, arith}
use Rattle.std.specs.Prelude.{◌==◌, min}
use Rattle.std.proofs.lemmas.List.{take_min}
use Rattle.span_language.proofs.Cuts.{empty_of}

-- the stored bytes of a line are unchanged by further bytes
pub kept_goes_on : (n : ℕ) (xs ys : List ℕ) → take n (take n xs ++ ys) ≡ take n (xs ++ ys)
kept_goes_on zero xs ys = refl
kept_goes_on (suc n) [] ys = refl
kept_goes_on (suc n) (x ∷ xs) ys = ap (λ l. x ∷ l) (kept_goes_on n xs ys)

-- the stored bytes are all bytes, if they are fewer than the maximum
pub short_take : (n : ℕ) (xs : List ℕ) → length (take n xs) < n → take n xs ≡ xs
short_take zero xs h = absurd (omega (arith, h))
short_take (suc n) [] h = refl
short_take (suc n) (x ∷ xs) h = ap (λ l. x ∷ l) (short_take n xs (omega (arith, h)))

-- what fits is appended
pub taken : (n : ℕ) (xs ys : List ℕ) (room : ℕ) → length xs ≤ n → room ≡ min (n - length xs) (length ys) → xs ++ take room ys ≡ take n (xs ++ ys)
taken n [] ys room h is = let all : room ≡ min n (length ys) = omega (arith, is) in ap (λ k. take k ys) all ∙ take_min n ys
taken zero (x ∷ xs) ys room h is = absurd (omega (arith, h))
taken (suc n) (x ∷ xs) ys room h is = ap (λ l. x ∷ l) (taken n xs ys room (omega (arith, h)) (omega (arith, is)))

pub none_kept : (n : ℕ) (xs : List ℕ) → 1 ≤ n → take n xs ≡ [] → xs ≡ []
none_kept n [] some h = refl
none_kept zero (x ∷ xs) some h = absurd (omega (arith, some))
none_kept (suc n) (x ∷ xs) some h = let bad : ⊥ = cc h in absurd bad

some_of : (xs : List ℕ) → false ≡ (length xs == 0) → 0 < length xs
some_of [] h = let bad : ⊥ = cc h in absurd bad
some_of (x ∷ xs) h = omega arith

-- a list whose length is this number
pub none_by : (xs : List ℕ) (len : ℕ) → length xs ≡ len → true ≡ (len == 0) → xs ≡ []
none_by xs len is h = empty_of xs (subst (λ (k : ℕ). true ≡ (k == 0)) (sym is) h)

pub some_by : (xs : List ℕ) (len : ℕ) → length xs ≡ len → false ≡ (len == 0) → 0 < length xs
some_by xs len is h = some_of xs (subst (λ (k : ℕ). false ≡ (k == 0)) (sym is) h)

pub some_begun : (n : ℕ) (xs : List ℕ) → 0 < length (take n xs) → 0 < length xs
some_begun zero xs h = absurd (omega (arith, h))
some_begun (suc n) [] h = absurd (omega (arith, h))
some_begun (suc n) (x ∷ xs) h = omega arith
