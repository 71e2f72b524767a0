-- The answers of a formula on a text, and a page of a list of answers.
use Rattle.std.specs.Prelude.{◌≡◌, ℕ, ◌+◌, ◌↔◌, Bool, nat_lt, List, [], ◌++◌, length, take, Option, Some, None, Contains, AllPairs}
use Rattle.span_types.specs.declared.tuple.Span.{Span}
use Rattle.span_types.specs.FormulaTree.{FormulaTree}
use Rattle.span_types.specs.Marks.{Comes, spans_of}
use Rattle.span_types.specs.Fits.{Fits}

-- each comes before all that follow it
abbrev pub IsRising : List (List (Option Span)) → Type 0
IsRising ts = AllPairs Comes ts

-- Answers: the list in mark order whose members are exactly the tuples of k variables with which the formula fits the
-- whole text
pub record IsAnswers (f : FormulaTree) (k : ℕ) (s : List ℕ) (ts : List (List (Option Span))) : Type 0 where
  pub rising : IsRising ts
  pub members : (t : List (Option Span)) → Contains ts t ↔ (length t ≡ k) × Fits f s 1 (length s + 1) (spans_of t)

-- the part of a list in mark order that comes after a cursor
pub record IsAfter (all : List (List (Option Span))) (cursor : Option (List (Option Span))) (rest : List (List (Option Span))) : Type 0 where
  pub prefix : List (List (Option Span))
  pub cut : all ≡ prefix ++ rest
  pub start : cursor ≡ None → prefix ≡ []
  pub passed : (c t : List (Option Span)) → cursor ≡ Some c → Contains prefix t → Comes c t → ⊥
  pub left : (c t : List (Option Span)) → cursor ≡ Some c → Contains rest t → Comes c t

-- Page: the first n tuples after the cursor, which is any tuple or none, and whether there are more
pub record IsPage (all : List (List (Option Span))) (cursor : Option (List (Option Span))) (n : ℕ) (page : List (List (Option Span))) (more : Bool) : Type 0 where
  pub rest : List (List (Option Span))
  pub after : IsAfter all cursor rest
  pub first : page ≡ take n rest
  pub more_left : more ≡ nat_lt n (length rest)
