-- What the text of a query means.
use Rattle.std.specs.Prelude.{◌≡◌, ℕ, List}
use Rattle.span_types.specs.FormulaTree.{FormulaTree}
use Rattle.span_types.specs.Query.{Query, Leaf}
use Rattle.formula_syntax.specs.FormulaOf.{FormulaOf, TooLong, BadText, TooDeep, TooManyPositions, TooManyVariables, NotFunctional, Formula}
use Rattle.formula_syntax.specs.declared.refusal.FormulaRefusal as formula
use Rattle.query_book.specs.Occurrences.{CountIsAbove}
use Rattle.query_book.specs.declared.refusal.QueryRefusal as refusal

-- the text is a formula with at most this many reachable sets, and the query is its Leaf
pub record IsQueryOf (most : ℕ) (s : List ℕ) (q : Query) : Type 0 where
  pub formula : FormulaTree
  pub names : List (List ℕ)
  pub outcome : FormulaOf s (Formula formula names)
  pub few : CountIsAbove most formula → ⊥
  pub query : q ≡ Leaf formula names

-- the text is a formula with more reachable sets
pub record IsTooLarge (most : ℕ) (s : List ℕ) : Type 0 where
  pub formula : FormulaTree
  pub names : List (List ℕ)
  pub outcome : FormulaOf s (Formula formula names)
  pub many : CountIsAbove most formula

-- the text is rejected for this reason, which isn't allocation failure
abbrev pub Refuses : List ℕ → formula.FormulaRefusal → Type 0
Refuses s (formula.TheVariants.TooLong len) = FormulaOf s (TooLong len)
Refuses s formula.TheVariants.BadText = FormulaOf s BadText
Refuses s formula.TheVariants.TooDeep = FormulaOf s TooDeep
Refuses s formula.TheVariants.TooManyPositions = FormulaOf s TooManyPositions
Refuses s formula.TheVariants.TooManyVariables = FormulaOf s TooManyVariables
Refuses s (formula.TheVariants.NotFunctional name) = FormulaOf s (NotFunctional name)
Refuses s formula.TheVariants.NoMemory = ⊥

-- why the text is no query, or an allocation failed
abbrev pub IsRefused : ℕ → List ℕ → refusal.QueryRefusal → Type 0
IsRefused most s (refusal.TheVariants.Formula why) = Refuses s why
IsRefused most s refusal.TheVariants.TooManyStates = IsTooLarge most s
IsRefused most s refusal.TheVariants.NoMemory = Unit {0}
