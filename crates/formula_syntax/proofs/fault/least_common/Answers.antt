use Rattle.std.proofs.Common.{sym, ◌∙◌, arith, subst, ◌≡◌, ℕ, None}
use Rattle.span_types.specs.FormulaTree.{least_below}
use Rattle.formula_syntax.proofs.Least.{least_here, and_two}
use Rattle.formula_syntax.proofs.fault.least_common.Goals as goal

pub returns-then-b-v : goal.returns-then-b-v
returns-then-b-v c = λ p h. sym (least_here 8 c.loop-v.v p (omega arith) (c.loop-v.invariant p h) (sym (h c.loop-v.v (omega arith)) ∙ and_two _ _ c.if-a-v.true c.if-b-v.true))

pub returns : goal.returns
returns c = λ p h. let all : c.loop-v.v ≡ 8 = omega arith in let P : ℕ → Type 0 = λ z. least_below z p ≡ None in sym (subst P all (c.loop-v.invariant p h))
