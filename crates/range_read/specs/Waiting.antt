-- Nodes whose bytes are still to come, the next one last.
use Rattle.std.specs.Prelude.{ℕ, ◌-◌, ◌<◌, List, [], ◌∷◌, ◌++◌, length}
use Rattle.slp_model.specs.declared.NodeId.{NodeId}
use Rattle.slp_model.specs.declared.Node.{Node}
use Rattle.slp_model.specs.Tree.{text, height}
use Rattle.slp_model.specs.Nodes.{tree}

-- the bytes of the nodes, the last node's first
abbrev pub trail_text : List Node → List NodeId → List ℕ
trail_text nodes [] = []
trail_text nodes (id ∷ ids) = trail_text nodes ids ++ text (tree nodes id.index)

-- the nodes are there, and the first of them is lower than `levels`, each later one lower than one level less
abbrev pub IsTrail : List Node → ℕ → List NodeId → Type 0
IsTrail nodes levels [] = Unit {0}
IsTrail nodes levels (id ∷ ids) = (id.index < length nodes) × (height (tree nodes id.index) < levels) × IsTrail nodes (levels - 1) ids
