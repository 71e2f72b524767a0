-- The cost of a command, within its allowance.
use Rattle.std.proofs.Common.{arith, inl, inr, length, List, refl, ℕ, ◌*◌, ◌+◌, ◌≡◌, ◌≤◌}
use Rattle.edit_expr.specs.Eval.{greatest, operations}
use Rattle.edit_expr.specs.Expressions.{ExprReads}
use Rattle.edit_expr.specs.declared.expr.Expr.{Expr}
use Rattle.script_syntax.specs.declared.form.Command.{Command}
use Rattle.span_language.specs.Allowance.{Counters, counters, edit_limit, IsPaid, load_limit, no_steps, PaysFor, PaysForPart}
use Rattle.span_language.specs.State.{World}
use Rattle.span_types.specs.Fibonacci.{height_limit}
use Rattle.script_syntax.specs.declared.form.Command.TheVariants as form

pub none_paid : (looks p q : ℕ) → q ≡ p → IsPaid no_steps (counters looks p) (counters looks q)
none_paid looks p q is = record { looks = omega arith; pairs = omega (arith, is) }

pub part_of_paid : (old : World) (command : Command) (before after : Counters) → PaysFor old command before after → PaysForPart old command before after
part_of_paid old command before after (a, is, paid) = (a, inr is, paid)

pub not_begun : (old : World) (command : Command) (looks p : ℕ) → PaysForPart old command (counters looks p) (counters looks p)
not_begun old command looks p = (no_steps, inl refl, none_paid looks p p refl)

pub load_paid : (old : World) (name bytes : List ℕ) (looks p q : ℕ) → q ≤ p + length bytes + 4 * (height_limit (length bytes) + 1) → PaysFor old (form.Text name bytes) (counters looks p) (counters looks q)
load_paid old name bytes looks p q h = (record { looks = 0; pairs = load_limit (length bytes) }, refl, record { looks = omega arith; pairs = omega (arith, h) })

pub let_paid : (old : World) (name expr : List ℕ) (e : Expr) (looks p q : ℕ) → ExprReads expr e → q ≤ p + edit_limit (operations e) (greatest old.state.documents e) → PaysFor old (form.LetDoc name expr) (counters looks p) (counters looks q)
let_paid old name expr e looks p q reads h = (record { looks = 0; pairs = edit_limit (operations e) (greatest old.state.documents e) }, inr (e, reads, refl), record { looks = omega arith; pairs = h })
