-- The words of tuples that may have bounds past the end of a text.
use Rattle.std.specs.Prelude.{◌≡◌, ℕ, ◌+◌, ◌<◌, ◌≤◌, ◌⊎◌, ◌||◌, Bool, false, nat_le, List, [], ◌∷◌, ◌++◌, length, Option, Some, None, if◌then◌else◌}
use Rattle.span_types.specs.declared.tuple.Span.{Span}
use Rattle.span_types.specs.Places.{IsTuple}
use Rattle.span_types.specs.Marks.{mark_of}
use Rattle.span_types.specs.Writes.{write_marks}
use Rattle.span_types.specs.Words.{Marked, word_from, marks_in}
use Rattle.span_enum.specs.Members.{Tuple}

-- a tuple of k variables
pub record IsTupleOf (k : ℕ) (t : Tuple) : Type 0 where
  pub size : length t ≡ k
  pub valid : IsTuple t

-- whether a span ends at p or past it
abbrev pub reaches : ℕ → Tuple → Bool
reaches p [] = false
reaches p (None ∷ t) = reaches p t
reaches p (Some q ∷ t) = nat_le p q.end || reaches p t

-- the mark at the end of a text, plus 1 if the tuple has a bound past the end
unfoldable pub end_mark : Tuple → ℕ → ℕ
end_mark t p = mark_of t p + (if reaches (p + 1) t then 1 else 0)

-- the letters of a text from position p on, with the marks of a tuple
abbrev pub word_over : Tuple → ℕ → List ℕ → Marked
word_over t p s = word_from (mark_of t) p s

-- a text and its end, with the marks of a tuple. Of two tuples that agree up to the end, the one with a bound past it comes first
abbrev pub word_of : Tuple → List ℕ → Marked
word_of t s = word_over t 1 s ++ (end_mark t (length s + 1), 256) ∷ []

-- a tuple after the marks of a word, whose letters have the positions from p on
abbrev pub write_word : ℕ → Marked → Tuple → Tuple
write_word p w t = write_marks p (marks_in w) t

-- the span starts or ends at p
abbrev pub IsBound : Option Span → ℕ → Type 0
IsBound None p = ⊥
IsBound (Some q) p = (q.start ≡ p) ⊎ (q.end ≡ p)

-- the span ends at p or past it
abbrev pub EndsPast : Option Span → ℕ → Type 0
EndsPast None p = ⊥
EndsPast (Some q) p = p ≤ q.end

-- the span starts or ends from `from` on and before `to`
pub record IsBoundBetween (o : Option Span) (from to : ℕ) : Type 0 where
  pub position : ℕ
  pub after : from ≤ position
  pub before : position < to
  pub bound : IsBound o position

-- some position from `from` on and before `to` has a mark
pub record IsMarkedBetween (t : Tuple) (from to : ℕ) : Type 0 where
  pub position : ℕ
  pub after : from ≤ position
  pub before : position < to
  pub some : 0 < mark_of t position

-- no position from `from` on and before `to` has one
abbrev pub IsUnmarked : Tuple → ℕ → ℕ → Type 0
IsUnmarked t from to = (p : ℕ) → from ≤ p → p < to → mark_of t p ≡ 0
