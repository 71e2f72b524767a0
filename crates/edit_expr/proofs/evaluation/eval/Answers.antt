use Rattle.std.proofs.Common.{◌≡◌, ℕ, ◌+◌, ◌*◌, arith}
use Rattle.span_types.specs.Fibonacci.{height_limit}
use Rattle.edit_expr.specs.Eval.{greatest, operations}
use Rattle.doc_book.specs.Texts.{plain}
use Rattle.edit_expr.specs.Costs.{edit_cost}
use Rattle.edit_expr.proofs.EvalLemmas.{total_cost-is}
use Rattle.edit_expr.proofs.evaluation.eval.Goals as goal

turned : (m h : ℕ) → m * (48 * (h + 1)) ≡ 48 * m * (h + 1)
turned m h = grind arith

pub returns-clause-cost : goal.returns-clause-cost
returns-clause-cost g c =
    let n = greatest (plain c.args.store.now c.args.docs.now) c.args.expr.now in
    omega (arith, c.value.ensures.cost n (omega arith), total_cost-is (edit_cost n) c.args.expr.now, turned (operations c.args.expr.now) (height_limit n))
