-- Tables as lists of rows, and how two are composed.
use Rattle.std.specs.Prelude.{◌≡◌, ℕ, ◌+◌, ◌<◌, ◌≤◌, ◌==◌, true, List, [], ◌∷◌, length, map, Option, Some, None, bit_or, slice_index_or, if◌then◌else◌}
use Rattle.std.specs.List.{range_with_len}
use Rattle.marker_dfa.specs.Deterministic.{DeterministicAutomaton, states_of, next_of, marks_of, and_then}
use Rattle.state_tables.specs.StateSet.{member, single_of}

-- the state reached with every mark 0, if any, and the set of those reached with some other mark
pub record Row : Type 0 where
  pub unmarked : Option ℕ
  pub marked : ℕ

abbrev pub no_row : Row
no_row = record { unmarked = None; marked = 0 }

-- the row of the state p
abbrev pub row_at : List Row → ℕ → Row
row_at t p = slice_index_or t p no_row

-- the state reached from p with every mark 0
abbrev pub unmarked_of : List Row → ℕ → Option ℕ
unmarked_of t p = (row_at t p).unmarked

-- the states reached from p with some other mark
abbrev pub marked_of : List Row → ℕ → ℕ
marked_of t p = (row_at t p).marked

-- what the state, if any, reaches with some mark
abbrev pub marked_from : List Row → Option ℕ → ℕ
marked_from t None = 0
marked_from t (Some q) = marked_of t q

-- all that a row reaches
abbrev pub reached_of : Row → ℕ
reached_of row = bit_or row.marked (single_of row.unmarked)

-- what the states of the set reach with any marks, over rows numbered from q
abbrev pub reach : ℕ → ℕ → List Row → ℕ
reach set q [] = 0
reach set q (row ∷ rows) = bit_or (if member set q then reached_of row else 0) (reach set (q + 1) rows)

abbrev pub compose_row : List Row → Row → Row
compose_row right row = record {
  unmarked = and_then row.unmarked (unmarked_of right);
  marked = bit_or (marked_from right row.unmarked) (reach row.marked 0 right);
}

-- the table of two texts joined
abbrev pub compose_of : List Row → List Row → List Row
compose_of left right = map (compose_row right) left

-- what the marks other than 0 in the list reach from p over b
abbrev pub reach_by_marks : DeterministicAutomaton → ℕ → ℕ → List ℕ → ℕ
reach_by_marks a p b [] = 0
reach_by_marks a p b (m ∷ ms) = bit_or (if m == 0 then 0 else single_of (next_of a p m b)) (reach_by_marks a p b ms)

abbrev pub byte_row : DeterministicAutomaton → ℕ → ℕ → Row
byte_row a b p = record { unmarked = next_of a p 0 b; marked = reach_by_marks a p b (marks_of a p b) }

-- the table of one byte
abbrev pub byte_table : DeterministicAutomaton → ℕ → List Row
byte_table a b = map (byte_row a b) (range_with_len 0 (states_of a))

-- a table of n states, at most 1,024, that reaches only these
pub record IsTableOf (n : ℕ) (t : List Row) : Type 0 where
  pub states : length t ≡ n
  pub few : n ≤ 1024
  pub unmarked_within : (p q : ℕ) → unmarked_of t p ≡ Some q → q < n
  pub marked_within : (p q : ℕ) → member (marked_of t p) q ≡ true → q < n
