-- The function H meets its definition.
use Rattle.std.proofs.Common.{◌≡◌, ℕ, zero, suc, ◌+◌, ◌-◌, ◌<◌, ◌≤◌, ◌⊎◌, inl, inr, Bool, true, false, leb, refl, ap, subst, arith, if◌then◌else◌}
use Rattle.std.proofs.lemmas.Bool.{cases_lt, leb-true, leb-false}
use Rattle.span_types.specs.Fibonacci.{fibonacci, greatest_up_to, height_limit, IsHeightLimit}
use Rattle.span_types.proofs.FibonacciLaws.{fibonacci-next, fibonacci-rises}

fibonacci-positive : (j : ℕ) → 0 < fibonacci (suc j)
unfolding fibonacci
fibonacci-positive zero = omega arith
fibonacci-positive (suc j) = omega (arith, fibonacci-positive j)

fibonacci-large : (j : ℕ) → j < fibonacci (j + 2)
fibonacci-large zero = fibonacci-positive 1
fibonacci-large (suc j) =
    let i : suc (suc (suc j)) ≡ suc j + 2 = omega arith in
    let e : suc (suc j) ≡ j + 2 = omega arith in
    omega (arith, fibonacci-large j, fibonacci-next (suc j), fibonacci-positive j, ap fibonacci i, ap fibonacci e)

record IsUpTo (n bound h : ℕ) : Type 0 where
  fits : (h ≡ 0) ⊎ (fibonacci (h + 2) ≤ n)
  greatest : (k : ℕ) → k ≤ bound → fibonacci (k + 2) ≤ n → k ≤ h

greatest_up_to-right : (n bound : ℕ) → IsUpTo n bound (greatest_up_to n bound)
greatest_up_to-right n zero = record { fits = inl refl; greatest = λ k le f. le }
greatest_up_to-right n (suc bound) = by (leb (fibonacci (bound + 3)) n) refl (greatest_up_to-right n bound)
  where
    by : (b : Bool) → leb (fibonacci (bound + 3)) n ≡ b → IsUpTo n bound (greatest_up_to n bound) → IsUpTo n (suc bound) (if b then suc bound else greatest_up_to n bound)
    by true e rest =
        let i : bound + 3 ≡ suc bound + 2 = omega arith in
        record { fits = inr (omega (arith, ap fibonacci i, leb-true (fibonacci (bound + 3)) n e)); greatest = λ k le f. le }
    by false e rest = record {
      fits = rest.fits;
      greatest = λ k le f. elim (cases_lt bound k) [
        | inl above ↦
            let i : k + 2 ≡ bound + 3 = omega arith in
            absurd (omega (arith, ap fibonacci i, leb-false (fibonacci (bound + 3)) n e, f))
        | inr below ↦ rest.greatest k below f
      ];
    }

-- H(n) is the greatest height
pub height_limit-right : (n : ℕ) → IsHeightLimit n (height_limit n)
unfolding height_limit
height_limit-right n =
    let r = greatest_up_to-right n n in
    record { fits = r.fits; greatest = λ k f. r.greatest k (omega (arith, f, fibonacci-large k)) f }

pub one-limit : (n g h : ℕ) → IsHeightLimit n g → IsHeightLimit n h → g ≡ h
one-limit n g h a b = omega (arith, le g h a b, le h g b a)
  where
    le : (g h : ℕ) → IsHeightLimit n g → IsHeightLimit n h → g ≤ h
    le g h a b = elim a.fits [ inl z ↦ omega (arith, z) | inr f ↦ b.greatest g f ]

-- where the next number is too great
pub stops : (n h : ℕ) → (h ≡ 0) ⊎ (fibonacci (h + 2) ≤ n) → n < fibonacci (h + 3) → IsHeightLimit n h
stops n h f over = record {
  fits = f;
  greatest = λ k le. elim (cases_lt h k) [
    | inl above ↦
        let i : (k - suc h) + (h + 3) ≡ k + 2 = omega arith in
        let up : fibonacci (h + 3) ≤ fibonacci (k + 2) = subst (λ m. fibonacci (h + 3) ≤ fibonacci m) i (fibonacci-rises (k - suc h) (h + 3)) in
        absurd (omega (arith, up, over))
    | inr below ↦ below
  ];
}

pub stops_is : (n h : ℕ) → IsHeightLimit n h → h ≡ height_limit n
stops_is n h l = one-limit n h (height_limit n) l (height_limit-right n)
