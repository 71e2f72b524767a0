use Rattle.std.proofs.Common.{◌≡◌, ◌∷◌, [], ◌++◌, vec_len}
use Rattle.span_types.specs.FormulaTree.{tree_of}
use Rattle.formula_syntax.specs.Machine.{cat_of}
use Rattle.formula_syntax.specs.View.{trees}
use Rattle.formula_syntax.proofs.build.cat_of.Given as goal

abbrev pub invariant-loop-part : goal.invariant-loop-part
invariant-loop-part l = cat_of (trees l.parts.items ++ tree_of l.whole ∷ []) ≡ cat_of (trees l.fn.parts.items)

abbrev pub decreases-loop-part : goal.decreases-loop-part
decreases-loop-part l = vec_len l.parts
