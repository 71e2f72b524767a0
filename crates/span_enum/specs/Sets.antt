-- Sets of states, and the states before a text from which some run ends in a set.
use Rattle.std.specs.Prelude.{ℕ, ◌==◌, Bool, false, ◌||◌, not, List, length, Option, Some, None, bit_and}
use Rattle.marker_dfa.specs.Deterministic.{DeterministicAutomaton, ends_of}
use Rattle.state_tables.specs.StateSet.{member}
use Rattle.state_tables.specs.Table.{Row, unmarked_of, marked_of}

-- whether there is a state and it is in the set
abbrev pub is_goal : ℕ → Option ℕ → Bool
is_goal goals None = false
is_goal goals (Some q) = member goals q

-- whether some run from p ends in the set, by the table
abbrev pub can_reach_of : List Row → ℕ → ℕ → Bool
can_reach_of t p goals = is_goal goals (unmarked_of t p) || not (bit_and (marked_of t p) goals == 0)

-- whether a text may end in the state
abbrev pub is_final : DeterministicAutomaton → ℕ → Bool
is_final a p = not (length (ends_of a p) == 0)
