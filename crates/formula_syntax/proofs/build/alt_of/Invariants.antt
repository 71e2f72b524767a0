use Rattle.std.proofs.Common.{◌≡◌, vec_len}
use Rattle.span_types.specs.FormulaTree.{tree_of}
use Rattle.formula_syntax.specs.Machine.{alt_of}
use Rattle.formula_syntax.specs.View.{trees}
use Rattle.formula_syntax.proofs.build.alt_of.Given as goal

abbrev pub invariant-loop-branch : goal.invariant-loop-branch
invariant-loop-branch l = alt_of (trees l.branches.items) (tree_of l.whole) ≡ alt_of (trees l.fn.branches.items) (tree_of l.fn.last)

abbrev pub decreases-loop-branch : goal.decreases-loop-branch
decreases-loop-branch l = vec_len l.branches
