-- A text in which spans are replaced.
use Rattle.std.specs.Prelude.{ℕ, ◌+◌, ◌-◌, ◌≤◌, List, [], ◌∷◌, ◌++◌, drop, slice_range}
use Rattle.span_types.specs.declared.tuple.Span.{Span}

-- the rest of the text from position p on, with each of the spans replaced by w
abbrev pub replaced_from : ℕ → List ℕ → List Span → List ℕ → List ℕ
replaced_from p s [] w = drop (p - 1) s
replaced_from p s (q ∷ qs) w = slice_range s (p - 1) (q.start - 1) ++ (w ++ replaced_from q.end s qs w)

-- Replaced: the text with each of the spans, from the left, replaced by w
abbrev pub replaced : List ℕ → List Span → List ℕ → List ℕ
replaced s qs w = replaced_from 1 s qs w

-- the spans lie between position p and the end of n bytes, and each starts at or past the end of the one before
abbrev pub AreApartFrom : ℕ → ℕ → List Span → Type 0
AreApartFrom p n [] = p ≤ n + 1
AreApartFrom p n (q ∷ qs) = (p ≤ q.start) × (q.start ≤ q.end) × AreApartFrom q.end n qs

-- the same for a whole text of n bytes
abbrev pub AreApart : ℕ → List Span → Type 0
AreApart n qs = AreApartFrom 1 n qs
