-- Sums and products of numbers that stop at a greatest one: they are those of the whole numbers, stopped.
use Rattle.std.proofs.Common.{◌≡◌, ℕ, zero, suc, ◌+◌, ◌*◌, ◌≤◌, min, ap, ◌∙◌, arith, inl, inr}
use Rattle.std.proofs.lemmas.Bool.{cases_lt}
use Rattle.std.proofs.Math.Nat.{mul-le-mul_left}

module _ (m : ℕ) where
  pub stop-twice : (x : ℕ) → min (min x m) m ≡ min x m
  stop-twice x = omega arith

  pub stop-sum : (x y : ℕ) → min (min x m + min y m) m ≡ min (x + y) m
  stop-sum x y = omega arith

  pub stop-sum_left : (x y : ℕ) → min (min x m + y) m ≡ min (x + y) m
  stop-sum_left x y = omega arith

  pub stop-sum_right : (x y : ℕ) → min (x + min y m) m ≡ min (x + y) m
  stop-sum_right x y = omega arith

  -- a product with a stopped factor
  pub stop-product_right : (x y : ℕ) → min (x * min y m) m ≡ min (x * y) m
  stop-product_right zero y = omega arith
  stop-product_right (suc x) y = elim (cases_lt m y) [
    | inl more ↦
        let is : min y m ≡ m = omega arith in
        let a : suc x * m ≤ suc x * y = mul-le-mul_left (suc x) (omega arith) in
        let b : m ≤ suc x * m = omega arith in
        ap (λ n. min (suc x * n) m) is ∙ omega (arith, a, b)
    | inr less ↦ let is : min y m ≡ y = omega arith in ap (λ n. min (suc x * n) m) is
  ]
