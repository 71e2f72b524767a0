use Rattle.span_types.specs.FormulaTree.{tree_of}
use Rattle.formula_syntax.proofs.Chains.{alt_step}
use Rattle.formula_syntax.proofs.build.alt_of.Goals as goal

pub loop-branch-preserved : goal.loop-branch-preserved
loop-branch-preserved c =
    rw (c.in_ok-new.ensures.ok, c.in_ok-new-2.ensures.ok)
    (alt_step _ _ c.in-Some.branch (tree_of c.loop-branch.whole) _ c.in-Some.ensures.items c.loop-branch.invariant)
