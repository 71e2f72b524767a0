-- The first marked text from a state into a set of states.
use Rattle.std.specs.Prelude.{◌≡◌, ℕ, ◌<◌, ◌≤◌, ◌⊎◌, true, List, ◌++◌, Some}
use Rattle.span_types.specs.Words.{Marked, Precedes}
use Rattle.formula_law.specs.Law.{bytes_of}
use Rattle.marker_dfa.specs.Deterministic.{DeterministicAutomaton}
use Rattle.state_tables.specs.StateSet.{member}
use Rattle.state_tables.specs.Table.{Row}
use Rattle.state_tables.specs.Meaning.{IsTable}
use Rattle.span_enum.specs.Letters.{step_of, reached}

-- some marked text over s leads from p into a goal
pub record CanRun (a : DeterministicAutomaton) (p : ℕ) (s : List ℕ) (goals : ℕ) : Type 0 where
  pub word : Marked
  pub state : ℕ
  pub bytes : bytes_of word ≡ s
  pub ends : reached a p word ≡ Some state
  pub goal : member goals state ≡ true

-- w is the first marked text over s that leads from p into a goal, and q is that goal
pub record IsFirst (a : DeterministicAutomaton) (p : ℕ) (s : List ℕ) (goals : ℕ) (w : Marked) (q : ℕ) : Type 0 where
  pub bytes : bytes_of w ≡ s
  pub ends : reached a p w ≡ Some q
  pub goal : member goals q ≡ true
  pub least : (v : Marked) (r : ℕ) → bytes_of v ≡ s → reached a p v ≡ Some r → member goals r ≡ true → (v ≡ w) ⊎ Precedes w v

-- m is the greatest mark below the limit that leads from p over b into a goal, and q is that goal
pub record IsGreatestMark (a : DeterministicAutomaton) (p b goals limit m q : ℕ) : Type 0 where
  pub step : step_of a p m b ≡ Some q
  pub goal : member goals q ≡ true
  pub below : m < limit
  pub most : (n r : ℕ) → n < limit → step_of a p n b ≡ Some r → member goals r ≡ true → n ≤ m

-- the mark is not below the limit, or doesn't lead into a goal
abbrev pub IsNoMark : DeterministicAutomaton → ℕ → ℕ → ℕ → ℕ → ℕ → Type 0
IsNoMark a p b goals limit m = m < limit → (r : ℕ) → step_of a p m b ≡ Some r → member goals r ≡ true → ⊥

-- the tables of a text and of its two parts
pub record IsFork (a : DeterministicAutomaton) (t left right : List Row) : Type 0 where
  pub left_text : List ℕ
  pub right_text : List ℕ
  pub whole : IsTable a (left_text ++ right_text) t
  pub left_is : IsTable a left_text left
  pub right_is : IsTable a right_text right
