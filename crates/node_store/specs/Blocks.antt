-- Full trees, and the nodes with such trees.
use Rattle.std.specs.Prelude.{◌≡◌, ℕ, ◌<◌, ◌^◌, List, length}
use Rattle.slp_model.specs.declared.Node.{Node}
use Rattle.slp_model.specs.declared.NodeId.{NodeId}
use Rattle.slp_model.specs.Tree.{Tree, Leaf, Fork, text, leaves, height}
use Rattle.slp_model.specs.Nodes.{tree}

-- a node of height h with 2^h bytes
pub record IsBlockOf (ns : List Node) (h : ℕ) (id : NodeId) : Type 0 where
  pub live : id.index < length ns
  pub high : height (tree ns id.index) ≡ h
  pub long : leaves (tree ns id.index) ≡ 2 ^ h

-- the two children of each pair are equally high, so that a tree of height h has 2^h bytes
abbrev pub IsFull : Tree → Type 0
IsFull (Leaf b) = Unit {0}
IsFull (Fork l r) = (height l ≡ height r) × IsFull l × IsFull r

-- a full tree of height h with the text s
pub record IsBlock (h : ℕ) (s : List ℕ) (t : Tree) : Type 0 where
  pub full : IsFull t
  pub high : height t ≡ h
  pub reads : text t ≡ s

-- the node with index i has such a tree
pub record IsBlockAt (ns : List Node) (h : ℕ) (s : List ℕ) (i : ℕ) : Type 0 where
  pub live : i < length ns
  pub block : IsBlock h s (tree ns i)
