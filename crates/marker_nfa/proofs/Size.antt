-- The number of parts of a formula.
use Rattle.std.specs.Prelude.{ℕ, suc, ◌+◌}
use Rattle.span_types.specs.FormulaTree.{FormulaTree, Set, Empty, Cat, Alt, Star, Plus, Opt, Capture}

abbrev pub tree_size : FormulaTree → ℕ
tree_size (Set b) = 0
tree_size Empty = 0
tree_size (Cat a b) = suc (tree_size a + tree_size b)
tree_size (Alt a b) = suc (tree_size a + tree_size b)
tree_size (Star a) = suc (tree_size a)
tree_size (Plus a) = suc (tree_size a)
tree_size (Opt a) = suc (tree_size a)
tree_size (Capture x a) = suc (tree_size a)
