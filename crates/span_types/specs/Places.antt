-- The eight entries of a tuple, and what they mean.
use Rattle.std.specs.Prelude.{◌≡◌, ℕ, zero, suc, ◌≤◌, ◌==◌, List, [], ◌∷◌, length, Option, Some, None, if◌then◌else◌}
use Rattle.span_types.specs.declared.tuple.Span.{Span}

-- from a position up to a later one or the same
pub record IsSpan (q : Span) : Type 0 where
  pub positive : 1 ≤ q.start
  pub ordered : q.start ≤ q.end
  pub small : q.end ≤ 281474976710657

-- a span, or `[0,0)`, which means that there is none
pub record IsPlace (q : Span) : Type 0 where
  pub blank : q.start ≡ 0 → q.end ≡ 0
  pub ordered : q.start ≤ q.end
  pub small : q.end ≤ 281474976710657

-- the entry of a variable without a span
abbrev pub blank : Span
blank = record { start = 0; end = 0 }

-- what an entry means
abbrev pub placed : Span → Option Span
placed q = if q.start == 0 then None else Some q

-- the entry with this meaning
abbrev pub unplaced : Option Span → Span
unplaced None = blank
unplaced (Some q) = q

-- what the first k entries mean
abbrev pub places_of : ℕ → List Span → List (Option Span)
places_of zero xs = []
places_of (suc k) [] = []
places_of (suc k) (x ∷ xs) = placed x ∷ places_of k xs

-- n entries with this meaning
abbrev pub filled : ℕ → List (Option Span) → List Span
filled zero xs = []
filled (suc n) [] = blank ∷ filled n []
filled (suc n) (x ∷ xs) = unplaced x ∷ filled n xs

-- n entries, the first k of them in use
abbrev pub ArePlaces : ℕ → ℕ → List Span → Type 0
ArePlaces zero k [] = k ≡ 0
ArePlaces zero k (x ∷ xs) = ⊥
ArePlaces (suc n) k [] = ⊥
ArePlaces (suc n) zero (x ∷ xs) = (x ≡ blank) × ArePlaces n zero xs
ArePlaces (suc n) (suc k) (x ∷ xs) = IsPlace x × ArePlaces n k xs

-- each that isn't None is a span
abbrev pub AreSpans : List (Option Span) → Type 0
AreSpans [] = Unit {0}
AreSpans (None ∷ xs) = AreSpans xs
AreSpans (Some q ∷ xs) = IsSpan q × AreSpans xs

-- a span or none for each of at most eight variables
pub record IsTuple (t : List (Option Span)) : Type 0 where
  pub few : length t ≤ 8
  pub spans : AreSpans t

-- a span, or None
abbrev pub IsSpanOr : Option Span → Type 0
IsSpanOr None = Unit {0}
IsSpanOr (Some q) = IsSpan q
