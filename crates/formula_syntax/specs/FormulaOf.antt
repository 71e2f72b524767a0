-- The result for a text: a formula with its names, or the first rejection.
use Rattle.std.specs.Prelude.{◌≡◌, ℕ, ◌<◌, ◌≤◌, List, [], length, Some, None, slice_get, Result, Ok, Err}
use Rattle.span_types.specs.FormulaTree.{FormulaTree, tree_of, sets, fault}
use Rattle.span_types.specs.declared.formula.Formula as formula
use Rattle.formula_syntax.specs.declared.refusal.FormulaRefusal as refusal
use Rattle.formula_syntax.specs.Grammar.{alt, Reads}
use Rattle.formula_syntax.specs.Numbering.{Names}

-- the whole text is one ALT, with at most d groups and captures open at once
abbrev pub IsReading : List ℕ → FormulaTree → Names → ℕ → Type 0
IsReading s f names d = Reads alt s f d [] names

-- a rejection, or a formula with the names of its variables
pub data Outcome : Type 0 where
  TooLong : (len : ℕ) → Outcome
  BadText : Outcome
  TooDeep : Outcome
  TooManyPositions : Outcome
  TooManyVariables : Outcome
  NotFunctional : (name : List ℕ) → Outcome
  Formula : (f : FormulaTree) (names : Names) → Outcome

-- a reading of a text that respects all limits
pub record Meets (s : List ℕ) (f : FormulaTree) (names : Names) (d : ℕ) : Type 0 where
  pub short : length s ≤ 2048
  pub reading : IsReading s f names d
  pub shallow : d ≤ 64
  pub positions : sets f ≤ 512
  pub variables : length names ≤ 8

-- FormulaOf: the outcome of a text, the first rejection or the formula with its names
abbrev pub FormulaOf : List ℕ → Outcome → Type 0
FormulaOf s (TooLong len) = (2048 < length s) × (len ≡ length s)
FormulaOf s BadText = (length s ≤ 2048) × ((f : FormulaTree) (names : Names) (d : ℕ) → IsReading s f names d → ⊥)
FormulaOf s TooDeep = (length s ≤ 2048) × (f : FormulaTree) × (names : Names) × (d : ℕ) × IsReading s f names d × (64 < d)
FormulaOf s TooManyPositions = (length s ≤ 2048) × (f : FormulaTree) × (names : Names) × (d : ℕ) × IsReading s f names d × (d ≤ 64) × (512 < sets f)
FormulaOf s TooManyVariables = (length s ≤ 2048) × (f : FormulaTree) × (names : Names) × (d : ℕ) × IsReading s f names d × (d ≤ 64) × (sets f ≤ 512) × (8 < length names)
FormulaOf s (NotFunctional name) = (f : FormulaTree) × (names : Names) × (d : ℕ) × (v : ℕ) × Meets s f names d × (fault f ≡ Some v) × (slice_get names v ≡ Some name)
FormulaOf s (Formula f names) = (d : ℕ) × Meets s f names d × (fault f ≡ None)

-- what a reader returned is the outcome, or it is out of memory
abbrev pub Says : Result (formula.Formula × Names) refusal.FormulaRefusal → List ℕ → Type 0
Says (Ok x) s = FormulaOf s (Formula (tree_of x.0) x.1)
Says (Err (refusal.TheVariants.TooLong len)) s = FormulaOf s (TooLong len)
Says (Err refusal.TheVariants.BadText) s = FormulaOf s BadText
Says (Err refusal.TheVariants.TooDeep) s = FormulaOf s TooDeep
Says (Err refusal.TheVariants.TooManyPositions) s = FormulaOf s TooManyPositions
Says (Err refusal.TheVariants.TooManyVariables) s = FormulaOf s TooManyVariables
Says (Err (refusal.TheVariants.NotFunctional name)) s = FormulaOf s (NotFunctional name)
Says (Err refusal.TheVariants.NoMemory) s = Unit {0}
