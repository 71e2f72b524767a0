-- The marks of a tuple over a text, whose end counts as a letter.
use Rattle.std.specs.Prelude.{◌≡◌, ℕ, suc, ◌+◌, ◌<◌, ◌==◌, ◌⊎◌, List, [], ◌∷◌, ◌++◌, Option, if◌then◌else◌}
use Rattle.span_types.specs.declared.tuple.Span.{Span}
use Rattle.span_types.specs.Marks.{mark_of}

-- a mark and a letter for each position
abbrev pub Marked : Type 0
Marked = List (ℕ × ℕ)

-- the letters of a text, 256 for its end
abbrev pub ended : List ℕ → List ℕ
ended s = s ++ 256 ∷ []

-- the letters from position p on, each with the mark that f assigns to its position
abbrev pub word_from : (ℕ → ℕ) → ℕ → List ℕ → Marked
word_from f p [] = []
word_from f p (b ∷ s) = (f p, b) ∷ word_from f (suc p) s

-- Marked: the marks of the tuple t at each letter of the text s and at its end
abbrev pub marked : List ℕ → List (Option Span) → Marked
marked s t = word_from (mark_of t) 1 (ended s)

-- the marks alone
abbrev pub marks_in : Marked → List ℕ
marks_in [] = []
marks_in (x ∷ w) = x.0 ∷ marks_in w

-- w comes before v: where their marks first differ, w has the greater one
abbrev pub Precedes : Marked → Marked → Type 0
Precedes [] v = ⊥
Precedes (x ∷ w) [] = ⊥
Precedes (x ∷ w) (y ∷ v) = (y.0 < x.0) ⊎ ((x.0 ≡ y.0) × Precedes w v)

-- how many marks aren't 0
abbrev pub mark_count : Marked → ℕ
mark_count [] = 0
mark_count (x ∷ w) = (if x.0 == 0 then 0 else 1) + mark_count w

-- the tuple has a bound past the end of a text of n bytes
pub record IsPast (n : ℕ) (t : List (Option Span)) : Type 0 where
  pub index : ℕ
  pub past : suc n < index
  pub there : 0 < mark_of t index
