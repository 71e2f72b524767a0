-- The marks that a formula reads between two positions, by recursion on the formula.
use Rattle.std.proofs.Common.{◌≡◌, ℕ, suc, ◌+◌, ◌≤◌, Bool, ◌⊎◌, List}
use Rattle.span_types.specs.FormulaTree.{FormulaTree, Set, Empty, Cat, Alt, Star, Plus, Opt, Capture}
use Rattle.span_types.specs.Marks.{at_position, opening, closing}
use Rattle.span_types.specs.Fits.{Turns}
use Rattle.span_types.proofs.Sums.{IsZero, IsSum, zeros}

-- marks of one part up to a position, and of another from there
pub record Split (P Q : ℕ → ℕ → (ℕ → ℕ) → Type 0) (i j : ℕ) (u : ℕ → ℕ) : Type 0 where
  pub index : ℕ
  pub low : i ≤ index
  pub high : index ≤ j
  pub left : ℕ → ℕ
  pub right : ℕ → ℕ
  pub in_left : P i index left
  pub in_right : Q index j right
  pub sum : IsSum u left right

pub record Around (x : ℕ) (P : ℕ → ℕ → (ℕ → ℕ) → Type 0) (i j : ℕ) (u : ℕ → ℕ) : Type 0 where
  pub inner : ℕ → ℕ
  pub within : P i j inner
  pub sum : (p : ℕ) → u p ≡ at_position i (opening x) p + at_position j (closing x) p + inner p

module _ (A : ℕ → List Bool → Type 0) where
  abbrev pub Words : FormulaTree → ℕ → ℕ → (ℕ → ℕ) → Type 0
  Words (Set b) i j u = (j ≡ suc i) × A i b × IsZero u
  Words Empty i j u = (i ≡ j) × IsZero u
  Words (Cat a b) i j u = Split (Words a) (Words b) i j u
  Words (Alt a b) i j u = Words a i j u ⊎ Words b i j u
  Words (Star a) i j u = IsZero u × Turns (λ g h. Words a g h zeros) i j
  Words (Plus a) i j u = IsZero u × (m : ℕ) × (i ≤ m) × (m ≤ j) × Words a i m zeros × Turns (λ g h. Words a g h zeros) m j
  Words (Opt a) i j u = ((i ≡ j) × IsZero u) ⊎ Words a i j u
  Words (Capture x a) i j u = Around x (Words a) i j u
