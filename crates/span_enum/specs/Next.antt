-- The next marked text after a given one.
use Rattle.std.specs.Prelude.{◌≡◌, ℕ, ◌⊎◌, true, List, Some}
use Rattle.marker_dfa.specs.Deterministic.{DeterministicAutomaton}
use Rattle.span_types.specs.Words.{Marked, Precedes}
use Rattle.formula_law.specs.Law.{bytes_of}
use Rattle.span_enum.specs.Letters.{reached}
use Rattle.state_tables.specs.StateSet.{member}

-- a marked text over s that leads from p into a goal and comes strictly after w
pub record IsAfter (a : DeterministicAutomaton) (p : ℕ) (s : List ℕ) (goals : ℕ) (w v : Marked) (r : ℕ) : Type 0 where
  pub bytes : bytes_of v ≡ s
  pub ends : reached a p v ≡ Some r
  pub goal : member goals r ≡ true
  pub after : Precedes w v

abbrev pub NoneAfter : DeterministicAutomaton → ℕ → List ℕ → ℕ → Marked → Type 0
NoneAfter a p s goals w = (v : Marked) (r : ℕ) → IsAfter a p s goals w v r → ⊥

-- v is the first of them
pub record IsNext (a : DeterministicAutomaton) (p : ℕ) (s : List ℕ) (goals : ℕ) (w v : Marked) (r : ℕ) : Type 0 where
  pub is_after : IsAfter a p s goals w v r
  pub least : (x : Marked) (n : ℕ) → IsAfter a p s goals w x n → (x ≡ v) ⊎ Precedes v x
