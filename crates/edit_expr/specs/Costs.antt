-- The maximum number of node constructions for an expression.
use Rattle.std.specs.Prelude.{ℕ, ◌+◌, ◌*◌}
use Rattle.span_types.specs.Fibonacci.{height_limit}
use Rattle.edit_expr.specs.declared.expr.Expr.{Expr}
use Rattle.edit_expr.specs.declared.expr.Expr.TheVariants.{Doc, Concat', Extract', Delete', Insert', Copy'}

-- for one operation on texts of at most n bytes
abbrev pub edit_cost : ℕ → ℕ
edit_cost n = 48 * (height_limit n + 1)

-- each operation costs c
abbrev pub total_cost : ℕ → Expr → ℕ
total_cost c (Doc name) = 0
total_cost c (Concat' p l q r) = total_cost c l + total_cost c r + c
total_cost c (Extract' p of i j) = total_cost c of + c
total_cost c (Delete' p of i j) = total_cost c of + c
total_cost c (Insert' p l q r k) = total_cost c l + total_cost c r + c
total_cost c (Copy' p of i j k) = total_cost c of + c
