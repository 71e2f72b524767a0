use Rattle.span_types.specs.FormulaTree.{tree_of}
use Rattle.marker_nfa.proofs.Size.{tree_size}
use Rattle.marker_nfa.proofs.parts.+put_part.Given as goal

abbrev pub decreases-put_part : goal.decreases-put_part
decreases-put_part l = tree_size (tree_of l.formula.now)
