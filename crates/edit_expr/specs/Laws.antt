-- Theorems about the definitions.
use Rattle.std.specs.Prelude.{◌≡◌, ℕ, List, [], codes, Ok, Err}
use Rattle.edit_expr.specs.declared.expr.Expr.{Expr}
use Rattle.edit_expr.specs.declared.refusal.EditRefusal.TheVariants.{OutOfRange}
use Rattle.doc_book.specs.Texts.{Document}
use Rattle.edit_expr.specs.Eval.{copied, deleted, eval, extracted, greatest, inserted, operations}
use Rattle.edit_expr.specs.Expressions.{ExprReads}

-- two expressions that are equal except for the memory addresses of their parts
pub record HaveOneMeaning (e f : Expr) : Type 0 where
  pub values : (docs : List Document) → eval docs e ≡ eval docs f
  pub sizes : (docs : List Document) → greatest docs e ≡ greatest docs f
  pub counts : operations e ≡ operations f

-- a text is the notation of at most one expression
abbrev pub OneExpression : Type 0
OneExpression = (text : List ℕ) (e f : Expr) → ExprReads text e → ExprReads text f → HaveOneMeaning e f

-- some values of the operations
pub record EditRows : Type 0 where
  pub copy_at_end : copied (codes "abcd") 1 3 5 ≡ Ok (codes "abcdab")
  pub copy_behind : copied (codes "abcd") 1 3 6 ≡ Err (OutOfRange 6 6 4)
  pub insert_within : inserted (codes "abcd") (codes "abcd") 3 ≡ Ok (codes "ababcdcd")
  pub extract_back : extracted (codes "abcd") 3 2 ≡ Err (OutOfRange 3 2 4)
  pub delete_all : deleted (codes "abcd") 1 5 ≡ Ok []
