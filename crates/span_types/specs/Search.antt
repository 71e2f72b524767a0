-- The search for the first position at which two tuples differ.
use Rattle.std.specs.Prelude.{◌≡◌, ◌≢◌, ℕ, ◌≤◌, ◌⊎◌, List, Option, Some}
use Rattle.span_types.specs.declared.tuple.Span.{Span}
use Rattle.span_types.specs.Marks.{mark_of}

-- r is at most p, if the marks differ at p
abbrev pub Passes : List (Option Span) → List (Option Span) → ℕ → ℕ → Type 0
Passes t u p r = mark_of t p ≢ mark_of u p → r ≤ p

-- the same for both bounds of a span
abbrev pub PassesSpan : List (Option Span) → List (Option Span) → Option Span → ℕ → Type 0
PassesSpan t u o r = (q : Span) → o ≡ Some q → Passes t u q.start r × Passes t u q.end r

-- a candidate that is at most an earlier one, and is that one or a position at which the marks differ
pub record IsLower (t u : List (Option Span)) (first r : ℕ) : Type 0 where
  pub low : r ≤ first
  pub known : (r ≡ first) ⊎ (mark_of t r ≢ mark_of u r)
