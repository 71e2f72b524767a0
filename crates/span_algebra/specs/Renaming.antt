-- Tuples and marks of some variables, as tuples and marks of others.
use Rattle.std.specs.Prelude.{ℕ, ◌+◌, ◌*◌, ◌/◌, ◌%◌, List, [], ◌∷◌, ◌++◌, map, Option, if◌then◌else◌}
use Rattle.span_types.specs.declared.tuple.Span.{Span}
use Rattle.span_types.specs.Rel.{named, lacking, same_name}

-- VarsOf of two operands: the names of the left, then those of the right that the left lacks
abbrev pub both_names : List (List ℕ) → List (List ℕ) → List (List ℕ)
both_names va vb = va ++ lacking va vb

-- the spans that a tuple assigns to the names `to`, by its own names
abbrev pub tuple_for : List (List ℕ) → List (List ℕ) → List (Option Span) → List (Option Span)
tuple_for to from t = map (named from t) to

-- the markers of a name in a mark of the variables `from`: 1 opens, 2 closes, 3 does both
abbrev pub markers : List (List ℕ) → ℕ → List ℕ → ℕ
markers [] m n = 0
markers (x ∷ from) m n = if same_name x n then m % 4 else markers from (m / 4) n

-- a mark of the variables `from`, as a mark of the variables `to`: the markers of the others are lost
abbrev pub mark_for : List (List ℕ) → List (List ℕ) → ℕ → ℕ
mark_for [] from m = 0
mark_for (n ∷ to) from m = markers from m n + 4 * mark_for to from m
