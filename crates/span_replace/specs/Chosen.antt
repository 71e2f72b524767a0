-- The spans that are replaced.
use Rattle.std.specs.Prelude.{ℕ, nat_le, List, [], ◌∷◌, Some, None, if◌then◌else◌}
use Rattle.span_types.specs.declared.tuple.Span.{Span}
use Rattle.span_enum.specs.Members.{Tuple}

-- the spans of the first variable in their order, of the tuples that have one
abbrev pub spans_in : List Tuple → List Span
spans_in [] = []
spans_in ([] ∷ ts) = spans_in ts
spans_in ((None ∷ t) ∷ ts) = spans_in ts
spans_in ((Some q ∷ t) ∷ ts) = q ∷ spans_in ts

-- the first that starts at or past p, then the first of those after it that starts at or past its end, and so on
abbrev pub chosen_from : ℕ → List Span → List Span
chosen_from p [] = []
chosen_from p (q ∷ qs) = if nat_le p q.start then q ∷ chosen_from q.end qs else chosen_from p qs

-- Chosen, of the list of all answers of one variable in mark order
abbrev pub chosen : List Tuple → List Span
chosen all = chosen_from 1 (spans_in all)
