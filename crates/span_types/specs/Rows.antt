-- Marks, heights and bounds on table lookups for some values.
use Rattle.std.specs.Prelude.{◌≡◌, ℕ, List, [], ◌∷◌, Option, Some}
use Rattle.span_types.specs.declared.tuple.Span.{Span}
use Rattle.span_types.specs.Marks.{mark_of}
use Rattle.span_types.specs.Fibonacci.{height_limit, looks_limit}

-- the span [i,j)
abbrev pub span : ℕ → ℕ → Option Span
span i j = Some (record { start = i; end = j })

-- the marks at the positions 1, 2 and 3
abbrev pub three_marks : List (Option Span) → List ℕ
three_marks t = mark_of t 1 ∷ mark_of t 2 ∷ mark_of t 3 ∷ []

pub record MarkRows : Type 0 where
  pub empty : three_marks (span 1 1 ∷ []) ≡ 3 ∷ 0 ∷ 0 ∷ []
  pub one_byte : three_marks (span 1 2 ∷ []) ≡ 1 ∷ 2 ∷ 0 ∷ []
  pub in_a_row : three_marks (span 1 2 ∷ span 2 3 ∷ []) ≡ 1 ∷ 6 ∷ 8 ∷ []
  pub same_end : three_marks (span 1 3 ∷ span 3 3 ∷ []) ≡ 1 ∷ 0 ∷ 14 ∷ []

pub record LimitRows : Type 0 where
  pub two : height_limit 2 ≡ 1
  pub seven : height_limit 7 ≡ 3
  pub thirty_one : height_limit 31 ≡ 6
  pub most : height_limit 281474976710656 ≡ 68
  pub no_bytes : looks_limit 0 0 ≡ 12
  pub eleven : looks_limit 1 11 ≡ 84
  pub one_most : looks_limit 1 281474976710656 ≡ 852
  pub eight_most : looks_limit 8 281474976710656 ≡ 4828
