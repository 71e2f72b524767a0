-- The stricter rule of formulas, under which every tuple has spans of all variables, and how it reads them.
use Rattle.std.specs.Prelude.{◌≡◌, ℕ, ◌+◌, ◌≤◌, ◌↔◌, ◌⊎◌, true, false, List, length, Option, Some, None, IsSome, Contains}
use Rattle.span_types.specs.declared.tuple.Span.{Span}
use Rattle.span_types.specs.FormulaTree.{FormulaTree, Set, Empty, Cat, Alt, Star, Plus, Opt, Capture, has_var}
use Rattle.span_types.specs.Marks.{Spans, spans_of}
use Rattle.span_types.specs.Fits.{ByteIn, Turns, on_vars, without}
use Rattle.span_types.specs.Answers.{IsRising}

-- has no variable
abbrev pub NoVars : FormulaTree → Type 0
NoVars a = (v : ℕ) → has_var a v ≡ false

-- share no variable
abbrev pub AreApart : FormulaTree → FormulaTree → Type 0
AreApart a b = (v : ℕ) → has_var a v ≡ true → has_var b v ≡ true → ⊥

-- StrictFun: as Fun, and both sides of an Alt have the same variables, and nothing under an Opt has one
abbrev pub StrictFun : FormulaTree → Type 0
StrictFun (Set b) = Unit {0}
StrictFun Empty = Unit {0}
StrictFun (Cat a b) = StrictFun a × StrictFun b × AreApart a b
StrictFun (Alt a b) = StrictFun a × StrictFun b × ((v : ℕ) → has_var a v ≡ has_var b v)
StrictFun (Star a) = StrictFun a × NoVars a
StrictFun (Plus a) = StrictFun a × NoVars a
StrictFun (Opt a) = StrictFun a × NoVars a
StrictFun (Capture x a) = StrictFun a × (has_var a x ≡ false)

-- assigns spans to exactly the variables of the formula
pub record IsExactly (f : FormulaTree) (t : Spans) : Type 0 where
  pub given : (v : ℕ) → has_var f v ≡ true → IsSome (t v)
  pub no_other : (v : ℕ) → has_var f v ≡ false → t v ≡ None

-- StrictFits by recursion on the formula
abbrev pub StrictIn : FormulaTree → List ℕ → ℕ → ℕ → Spans → Type 0
StrictIn (Set b) s i j t = (j ≡ i + 1) × ByteIn s i b
StrictIn Empty s i j t = i ≡ j
StrictIn (Cat a b) s i j t = (m : ℕ) × (i ≤ m) × (m ≤ j) × StrictIn a s i m (on_vars a t) × StrictIn b s m j (on_vars b t)
StrictIn (Alt a b) s i j t = StrictIn a s i j t ⊎ StrictIn b s i j t
StrictIn (Star a) s i j t = Turns (λ g h. StrictIn a s g h t) i j
StrictIn (Plus a) s i j t = (m : ℕ) × (i ≤ m) × (m ≤ j) × StrictIn a s i m t × Turns (λ g h. StrictIn a s g h t) m j
StrictIn (Opt a) s i j t = (i ≡ j) ⊎ StrictIn a s i j t
StrictIn (Capture x a) s i j t = (t x ≡ Some (record { start = i; end = j })) × StrictIn a s i j (without x t)

-- StrictFits: the formula matches from i to j and assigns spans to all of its variables
abbrev pub StrictFits : FormulaTree → List ℕ → ℕ → ℕ → Spans → Type 0
StrictFits f s i j t = IsExactly f t × StrictIn f s i j t

-- StrictAnswers: Answers, by the stricter reading
pub record AreStrictAnswers (f : FormulaTree) (k : ℕ) (s : List ℕ) (ts : List (List (Option Span))) : Type 0 where
  pub rising : IsRising ts
  pub members : (t : List (Option Span)) → Contains ts t ↔ (length t ≡ k) × StrictFits f s 1 (length s + 1) (spans_of t)
