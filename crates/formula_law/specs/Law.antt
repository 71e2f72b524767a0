-- The position automaton accepts exactly what the formula fits.
use Rattle.std.specs.Prelude.{◌≡◌, ℕ, ◌+◌, ◌≤◌, ◌↔◌, List, [], ◌∷◌, ◌++◌, length, false, map, Option}
use Rattle.span_types.specs.declared.tuple.Span.{Span}
use Rattle.span_types.specs.FormulaTree.{FormulaTree, Fun, has_var}
use Rattle.span_types.specs.Places.{IsTuple}
use Rattle.span_types.specs.Marks.{Spans, spans_of, mark, LiesIn, Lies}
use Rattle.span_types.specs.Fits.{Fits}
use Rattle.span_types.specs.Words.{Marked, marked}
use Rattle.formula_law.specs.Accepts.{MarkedText, Accepts, marked_by, marked_text}

-- the bytes of a marked text
abbrev pub bytes_of : Marked → List ℕ
bytes_of w = map (λ c. c.1) w

-- every variable is below k
abbrev pub VarsBelow : ℕ → FormulaTree → Type 0
VarsBelow k f = (v : ℕ) → k ≤ v → has_var f v ≡ false

-- the marked text is the text with the marks of spans that fit
pub record IsAnswerText (f : FormulaTree) (k : ℕ) (s : List ℕ) (w : MarkedText) : Type 0 where
  pub spans : Spans
  pub fits : Fits f s 1 (length s + 1) spans
  pub lies : LiesIn 1 (length s + 1) spans
  pub marks : w ≡ marked_by (mark k spans) s

-- a formula that obeys the rule, with variables below k, accepts exactly such marked texts of a text
abbrev pub AcceptsAnswers : Type 0
AcceptsAnswers =
    (f : FormulaTree) (k : ℕ) (s : List ℕ) (w : MarkedText) → Fun f → VarsBelow k f → bytes_of w.pairs ≡ s
    → Accepts f w ↔ IsAnswerText f k s w

-- the marked text is that of a tuple of k variables that lies in the text and fits it
pub record IsTupleText (f : FormulaTree) (k : ℕ) (s : List ℕ) (w : MarkedText) : Type 0 where
  pub tuple : List (Option Span)
  pub size : length tuple ≡ k
  pub valid : IsTuple tuple
  pub lies : Lies (length s) tuple
  pub fits : Fits f s 1 (length s + 1) (spans_of tuple)
  pub marks : w ≡ marked_text s tuple

-- the same for tuples of at most eight variables on texts of at most 2^48 bytes
abbrev pub AcceptsTuples : Type 0
AcceptsTuples =
    (f : FormulaTree) (k : ℕ) (s : List ℕ) (w : MarkedText) → Fun f → VarsBelow k f → k ≤ 8 → length s ≤ 281474976710656 → bytes_of w.pairs ≡ s
    → Accepts f w ↔ IsTupleText f k s w

-- the tuples that fit are those that lie in the text and whose marked text is accepted
abbrev pub FitsAccepted : Type 0
FitsAccepted =
    (f : FormulaTree) (s : List ℕ) (t : List (Option Span)) → Fun f → VarsBelow (length t) f
    → Fits f s 1 (length s + 1) (spans_of t) ↔ Lies (length s) t × Accepts f (marked_text s t)

-- the end of a text as one more letter: the word of a tuple is its marked text, with the last mark at the letter 256
abbrev pub MarkedWord : Type 0
MarkedWord = (s : List ℕ) (t : List (Option Span)) → marked s t ≡ (marked_text s t).pairs ++ ((marked_text s t).last, 256) ∷ []
