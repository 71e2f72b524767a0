-- The meaning of the table of a text.
use Rattle.std.specs.Prelude.{◌≡◌, ℕ, ◌<◌, ◌==◌, Bool, true, false, ◌||◌, ◌↔◌, not, List, [], ◌∷◌, map, Some, All}
use Rattle.span_types.specs.Words.{Marked}
use Rattle.formula_law.specs.Law.{bytes_of}
use Rattle.marker_dfa.specs.Deterministic.{DeterministicAutomaton, states_of, next_of, path}
use Rattle.state_tables.specs.StateSet.{member}
use Rattle.state_tables.specs.Table.{Row, unmarked_of, marked_of, IsTableOf}

-- the text with every mark 0
abbrev pub plain : List ℕ → Marked
plain s = map (λ b. (0, b)) s

-- whether some mark isn't 0
abbrev pub has_mark : Marked → Bool
has_mark [] = false
has_mark (x ∷ w) = not (x.0 == 0) || has_mark w

-- q is reached from p over s with some mark other than 0
pub record HasMarkedPath (a : DeterministicAutomaton) (p : ℕ) (s : List ℕ) (q : ℕ) : Type 0 where
  pub word : Marked
  pub bytes : bytes_of word ≡ s
  pub mark : has_mark word ≡ true
  pub ends : path (next_of a) word p ≡ Some q

-- the table of a text: for each state the one reached with every mark 0, and the set of those reached with some other mark
pub record IsTable (a : DeterministicAutomaton) (s : List ℕ) (t : List Row) : Type 0 where
  pub shape : IsTableOf (states_of a) t
  pub bytes : All (λ b. b < 256) s
  pub unmarked : (p : ℕ) → p < states_of a → unmarked_of t p ≡ path (next_of a) (plain s) p
  pub marked : (p q : ℕ) → p < states_of a → (member (marked_of t p) q ≡ true) ↔ HasMarkedPath a p s q
