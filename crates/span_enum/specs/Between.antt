-- The states between two texts from which the second leads into a goal.
use Rattle.std.specs.Prelude.{◌≡◌, ℕ, ◌<◌, true, List, length, Some}
use Rattle.span_types.specs.Words.{Marked}
use Rattle.formula_law.specs.Law.{bytes_of}
use Rattle.marker_dfa.specs.Deterministic.{DeterministicAutomaton}
use Rattle.state_tables.specs.StateSet.{member}
use Rattle.state_tables.specs.Table.{Row}
use Rattle.span_enum.specs.Letters.{reached}
use Rattle.span_enum.specs.Sets.{can_reach_of}
use Rattle.span_enum.specs.Words.{CanRun}

-- the states of `from` from which some run ends in a goal, by the table
pub record AreAmong (rows : List Row) (from goals set : ℕ) : Type 0 where
  pub all : (q : ℕ) → member from q ≡ true → can_reach_of rows q goals ≡ true → member set q ≡ true
  pub only : (q : ℕ) → member set q ≡ true → (q < length rows) × (can_reach_of rows q goals ≡ true)

-- of the states reached from p over s, those from which u leads into a goal
pub record AreBetween (a : DeterministicAutomaton) (p : ℕ) (s u : List ℕ) (goals between : ℕ) : Type 0 where
  pub reach : (n : ℕ) (x : Marked) → bytes_of x ≡ s → reached a p x ≡ Some n → CanRun a n u goals → member between n ≡ true
  pub onward : (n : ℕ) → member between n ≡ true → CanRun a n u goals
