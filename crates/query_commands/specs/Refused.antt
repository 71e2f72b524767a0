-- Why a query's text was rejected, as the reply states it.
use Rattle.std.specs.Prelude.{◌≡◌}
use Rattle.formula_syntax.specs.declared.refusal.FormulaRefusal.{FormulaRefusal}
use Rattle.formula_syntax.specs.declared.refusal.FormulaRefusal.TheVariants as formula
use Rattle.query_book.specs.declared.refusal.QueryRefusal.{QueryRefusal}
use Rattle.query_book.specs.declared.refusal.QueryRefusal.TheVariants as query
use Rattle.report_text.specs.declared.refusal.Refusal.{Refusal}
use Rattle.report_text.specs.declared.refusal.Refusal.TheVariants as refusal

-- the reply's rejection for a formula's text
abbrev pub IsFormulaRefusal : FormulaRefusal → Refusal → Type 0
IsFormulaRefusal (formula.TooLong len) why = why ≡ refusal.FormulaTooLong len
IsFormulaRefusal formula.BadText why = why ≡ refusal.BadFormula
IsFormulaRefusal formula.TooDeep why = why ≡ refusal.TooDeep
IsFormulaRefusal formula.TooManyPositions why = why ≡ refusal.TooManyPositions
IsFormulaRefusal formula.TooManyVariables why = why ≡ refusal.TooManyVariables
IsFormulaRefusal (formula.NotFunctional name) why = why ≡ refusal.NotFunctional name
IsFormulaRefusal formula.NoMemory why = ⊥

-- and for a query's text
abbrev pub IsTextRefusal : QueryRefusal → Refusal → Type 0
IsTextRefusal (query.Formula f) why = IsFormulaRefusal f why
IsTextRefusal query.TooManyStates why = why ≡ refusal.TooManyStates
IsTextRefusal query.NoMemory why = ⊥
