-- The marks on both sides of a position, as sums.
use Rattle.std.proofs.Common.{◌≡◌, ℕ, ◌+◌, ◌<◌, nat_lt, ◌⊎◌, inl, inr, sym, ap, ◌∙◌, arith, if◌then◌else◌}
use Rattle.std.proofs.lemmas.Bool.Decides.{nat_tests}
use Rattle.span_types.specs.Marks.{at_position}
use Rattle.span_types.proofs.Sums.{IsSum}

-- the marks before a position, and one at it
abbrev pub prefix : (ℕ → ℕ) → ℕ → ℕ → ℕ → ℕ
prefix u m x p = if nat_lt p m then u p else at_position m x p

-- the marks after a position, and one at it
abbrev pub back : (ℕ → ℕ) → ℕ → ℕ → ℕ → ℕ
back u m x p = if nat_lt m p then u p else at_position m x p

pub prefix_before : (u : ℕ → ℕ) (m x p : ℕ) → p < m → prefix u m x p ≡ u p
prefix_before u m x p h = grind (arith, nat_tests)

pub prefix_at : (u : ℕ → ℕ) (m x : ℕ) → prefix u m x m ≡ x
prefix_at u m x = grind (arith, nat_tests)

pub prefix_after : (u : ℕ → ℕ) (m x p : ℕ) → m < p → prefix u m x p ≡ 0
prefix_after u m x p h = grind (arith, nat_tests)

pub back_before : (u : ℕ → ℕ) (m x p : ℕ) → p < m → back u m x p ≡ 0
back_before u m x p h = grind (arith, nat_tests)

pub back_at : (u : ℕ → ℕ) (m x : ℕ) → back u m x m ≡ x
back_at u m x = grind (arith, nat_tests)

pub back_after : (u : ℕ → ℕ) (m x p : ℕ) → m < p → back u m x p ≡ u p
back_after u m x p h = grind (arith, nat_tests)

-- below, at or above
pub three : (p m : ℕ) → (p < m) ⊎ ((p ≡ m) ⊎ (m < p))
three p m = grind arith

pub prefix_back : (u : ℕ → ℕ) (m x y : ℕ) → u m ≡ x + y → IsSum u (prefix u m x) (back u m y)
prefix_back u m x y e = record { at = λ p. ⊎_elim_three u m x y e p (three p m) }
  where
    ⊎_elim_three : (u : ℕ → ℕ) (m x y : ℕ) → u m ≡ x + y → (p : ℕ) → (p < m) ⊎ ((p ≡ m) ⊎ (m < p)) → u p ≡ prefix u m x p + back u m y p
    ⊎_elim_three u m x y e p (inl h) = omega (arith, prefix_before u m x p h, back_before u m y p h)
    ⊎_elim_three u m x y e p (inr (inl h)) = ap u h ∙ e ∙ (omega (arith, prefix_at u m x, back_at u m y)) ∙ sym (ap (λ q. prefix u m x q + back u m y q) h)
    ⊎_elim_three u m x y e p (inr (inr h)) = omega (arith, prefix_after u m x p h, back_after u m y p h)
