-- Tuples as functions from variable numbers to spans, their marks, and mark order.
use Rattle.std.specs.Prelude.{◌≡◌, ℕ, zero, suc, ◌+◌, ◌*◌, ◌^◌, ◌<◌, ◌≤◌, ◌==◌, List, [], ◌∷◌, length, Option, Some, None, if◌then◌else◌}
use Rattle.span_types.specs.declared.tuple.Span.{Span}

-- a span or none for each variable number
abbrev pub Spans : Type 0
Spans = ℕ → Option Span

-- a list of spans as such a function
abbrev pub spans_of : List (Option Span) → Spans
spans_of [] v = None
spans_of (x ∷ xs) zero = x
spans_of (x ∷ xs) (suc v) = spans_of xs v

-- a number at one position, and 0 elsewhere
abbrev pub at_position : ℕ → ℕ → ℕ → ℕ
at_position i x p = if p == i then x else 0

-- what the start of the span of variable v adds to a mark
abbrev pub opening : ℕ → ℕ
opening v = 4 ^ v

-- what the end of the span of variable v adds to a mark
abbrev pub closing : ℕ → ℕ
closing v = 2 * 4 ^ v

-- what one variable adds to the mark at a position
abbrev pub part_of : ℕ → Option Span → ℕ → ℕ
part_of v None p = 0
part_of v (Some q) p = at_position q.start (opening v) p + at_position q.end (closing v) p

-- Mark: the number that the starts and ends at a position make, of the variables below k
abbrev pub mark : ℕ → Spans → ℕ → ℕ
mark zero t p = 0
mark (suc k) t p = mark k t p + part_of k (t k) p

-- Before, mark order of spans of k variables: at some position t has the greater mark, and at every smaller one the marks are equal
pub record Before (k : ℕ) (t u : Spans) : Type 0 where
  pub index : ℕ
  pub same_before : (p : ℕ) → p < index → mark k t p ≡ mark k u p
  pub greater : mark k u index < mark k t index

-- every span lies between the positions i and j
abbrev pub LiesIn : ℕ → ℕ → Spans → Type 0
LiesIn i j t = (v : ℕ) (q : Span) → t v ≡ Some q → (i ≤ q.start) × (q.start ≤ q.end) × (q.end ≤ j)

-- the mark of a tuple at a position
abbrev pub mark_of : List (Option Span) → ℕ → ℕ
mark_of t p = mark (length t) (spans_of t) p

-- Before, for two tuples of the same variables
abbrev pub Comes : List (Option Span) → List (Option Span) → Type 0
Comes t u = Before (length t) (spans_of t) (spans_of u)

-- the tuple lies in a text of n bytes
abbrev pub Lies : ℕ → List (Option Span) → Type 0
Lies n t = LiesIn 1 (suc n) (spans_of t)

-- at every smaller position the marks are the same, and where they are the same here too, they are everywhere
pub record IsFirstDifference (t u : List (Option Span)) (p : ℕ) : Type 0 where
  pub before : (q : ℕ) → q < p → mark_of t q ≡ mark_of u q
  pub here : mark_of t p ≡ mark_of u p → (q : ℕ) → mark_of t q ≡ mark_of u q
