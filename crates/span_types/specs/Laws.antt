-- Laws of marks, of mark order, and of tuples that are written mark by mark.
use Rattle.std.specs.Prelude.{◌≡◌, ◌↔◌, ◌⊎◌, ℕ, suc, ◌+◌, ◌<◌, ◌≤◌, ◌^◌, ◌*◌, List, [], ◌∷◌, ◌++◌, length, Option, Bool}
use Rattle.span_types.specs.declared.tuple.Span.{Span}
use Rattle.span_types.specs.Places.{IsTuple}
use Rattle.span_types.specs.Marks.{Spans, mark, mark_of, Comes, Lies}
use Rattle.span_types.specs.Writes.{cut, blanks, write_mark, write_marks}
use Rattle.span_types.specs.Words.{Marked, ended, marked, word_from, marks_in, Precedes, mark_count, IsPast}
use Rattle.span_types.specs.FormulaTree.{FormulaTree}
use Rattle.span_types.specs.Answers.{IsAnswers, IsPage}
use Rattle.span_types.specs.Query.{Query, Leaf}
use Rattle.span_types.specs.Rel.{IsAnswersOf}
use Rattle.span_types.specs.VarList.{AreVars}
use Rattle.span_types.specs.Strict.{StrictFun, AreStrictAnswers}

-- marks are small, and determine the spans that they come from
pub record MarksDetermine : Type 0 where
  pub below : (k : ℕ) (t : Spans) (p : ℕ) → mark k t p < 4 ^ k
  pub tell : (k : ℕ) (t u : Spans) → ((p : ℕ) → mark k t p ≡ mark k u p) → (v : ℕ) → v < k → t v ≡ u v

-- mark order is a strict order of all tuples of the same variables
pub record IsOrder : Type 0 where
  pub irreflexive : (t : List (Option Span)) → Comes t t → ⊥
  pub transitive : (t u v : List (Option Span)) → length t ≡ length u → Comes t u → Comes u v → Comes t v
  pub total : (t u : List (Option Span)) → IsTuple t → IsTuple u → length t ≡ length u → Comes t u ⊎ ((t ≡ u) ⊎ Comes u t)
  pub marked_first : (t u : List (Option Span)) → (b : Comes t u) → 0 < mark_of t b.index

-- the words of tuples over a text, whose end counts as a letter, are in the order of the tuples
pub record WordsOrder : Type 0 where
  pub same_order : (s : List ℕ) (t u : List (Option Span)) → IsTuple t → IsTuple u → length t ≡ length u → Lies (length s) t → Lies (length s) u
      → Comes t u ↔ Precedes (marked s t) (marked s u)
  -- c is any tuple, which may have bounds past the end
  pub after_any : (s : List ℕ) (c u : List (Option Span)) → IsTuple c → IsTuple u → length c ≡ length u → Lies (length s) u
      → Comes c u ↔ (Precedes (marked s c) (marked s u) ⊎ ((marked s c ≡ marked s u) × IsPast (length s) c))
  pub tell : (s : List ℕ) (t u : List (Option Span)) → IsTuple t → IsTuple u → length t ≡ length u → Lies (length s) t → Lies (length s) u
      → marked s t ≡ marked s u → t ≡ u
  pub few : (s : List ℕ) (t : List (Option Span)) → mark_count (marked s t) ≤ 2 * length t

-- a tuple is read back from its marks
pub record WritesBack : Type 0 where
  pub next : (t : List (Option Span)) (p : ℕ) → IsTuple t → write_mark (mark_of t p) p (cut p t) ≡ cut (suc p) t
  pub start : (t : List (Option Span)) → IsTuple t → cut 1 t ≡ blanks (length t)
  pub end : (s : List ℕ) (t : List (Option Span)) → IsTuple t → Lies (length s) t → cut (length s + 2) t ≡ t
  pub same : (t u : List (Option Span)) (p : ℕ) → IsTuple t → IsTuple u → length t ≡ length u → ((q : ℕ) → q < p → mark_of t q ≡ mark_of u q) → cut p t ≡ cut p u
  pub whole : (s : List ℕ) (t : List (Option Span)) → IsTuple t → Lies (length s) t → write_marks 1 (marks_in (marked s t)) (blanks (length t)) ≡ t

-- a formula has one list of answers on a text
abbrev pub OneList : Type 0
OneList = (f : FormulaTree) (k : ℕ) (s : List ℕ) (ts us : List (List (Option Span))) → IsAnswers f k s ts → IsAnswers f k s us → ts ≡ us

-- a list of answers has one page
abbrev pub OnePage : Type 0
OnePage = (all : List (List (Option Span))) (c : Option (List (Option Span))) (n : ℕ) (page other : List (List (Option Span))) (more less : Bool)
    → IsPage all c n page more → IsPage all c n other less → (page ≡ other) × (more ≡ less)

-- words and writing, piece by piece
pub record Pieces : Type 0 where
  pub word_append : (f : ℕ → ℕ) (p : ℕ) (s u : List ℕ) → word_from f p (s ++ u) ≡ word_from f p s ++ word_from f (p + length s) u
  pub word_end : (f : ℕ → ℕ) (s : List ℕ) → word_from f 1 (ended s) ≡ word_from f 1 s ++ (f (1 + length s), 256) ∷ []
  pub word_plain : (f : ℕ → ℕ) (p : ℕ) (s : List ℕ) → ((q : ℕ) → p ≤ q → q < p + length s → f q ≡ 0) → word_from f p s ≡ word_from (λ q. 0) p s
  pub marks_append : (w v : Marked) → marks_in (w ++ v) ≡ marks_in w ++ marks_in v
  pub write_append : (p : ℕ) (ms ns : List ℕ) (t : List (Option Span)) → write_marks p (ms ++ ns) t ≡ write_marks (p + length ms) ns (write_marks p ms t)
  pub write_plain : (p : ℕ) (s : List ℕ) (t : List (Option Span)) → write_marks p (marks_in (word_from (λ q. 0) p s)) t ≡ t
  pub write_nothing : (p : ℕ) (t : List (Option Span)) → write_mark 0 p t ≡ t

-- the answers of a Leaf are those of its formula
abbrev pub LeafAnswers : Type 0
LeafAnswers = (f : FormulaTree) (names : List (List ℕ)) (s : List ℕ) (ts : List (List (Option Span))) → AreVars names
    → IsAnswersOf (Leaf f names) s ts ↔ IsAnswers f (length names) s ts

-- a query has one list of answers on a text
abbrev pub OneQueryList : Type 0
OneQueryList = (q : Query) (s : List ℕ) (ts us : List (List (Option Span))) → IsAnswersOf q s ts → IsAnswersOf q s us → ts ≡ us

-- for a formula that meets the stricter rule, the answers are those of the stricter reading
abbrev pub StrictSame : Type 0
StrictSame = (f : FormulaTree) (k : ℕ) (s : List ℕ) (ts : List (List (Option Span))) → StrictFun f → IsAnswers f k s ts ↔ AreStrictAnswers f k s ts
