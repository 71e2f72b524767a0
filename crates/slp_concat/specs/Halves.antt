-- The two children of a tree that is being made.
use Rattle.std.specs.Prelude.{List, length, ◌<◌}
use Rattle.slp_concat.specs.declared.settle.Half.{Half}
use Rattle.slp_concat.specs.declared.settle.Half.TheVariants.{Made, Two}
use Rattle.slp_model.specs.Nodes.{tree}
use Rattle.slp_model.specs.Tree.{Tree, Fork, height, IsNear}
use Rattle.slp_model.specs.declared.Node.{Node}

-- the tree of a half
abbrev pub half_tree : List Node → Half → Tree
half_tree ns (Made a) = tree ns a.index
half_tree ns (Two a b) = Fork (tree ns a.index) (tree ns b.index)

-- its nodes are there, and two of them can be paired
abbrev pub IsHalf : List Node → Half → Type 0
IsHalf ns (Made a) = a.index < length ns
IsHalf ns (Two a b) = (a.index < length ns) × (b.index < length ns) × IsNear (height (tree ns a.index)) (height (tree ns b.index))
