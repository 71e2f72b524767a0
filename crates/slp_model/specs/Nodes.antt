-- Nodes in a list, and the tree below each.
use Rattle.std.specs.Prelude.{◌≡◌, ℕ, ◌+◌, ◌≤◌, ◌<◌, ◌^◌, List, [], ◌∷◌, ◌++◌, length, get_or, slice_get, sum_by, Option, Some, None}
use Rattle.std.specs.List.{All}
use Rattle.slp_model.specs.declared.NodeId.{NodeId}
use Rattle.slp_model.specs.declared.Node.{Node}
use Rattle.slp_model.specs.declared.Node.TheVariants.{Byte, Pair}
use Rattle.slp_model.specs.Tree.{Tree, Leaf, Fork, leaves, root_text, IsBalanced}

-- the tree of a node whose children have these trees
abbrev pub node_tree : List Tree → Node → Tree
node_tree ts (Byte b) = Leaf b
node_tree ts (Pair l r) = Fork (get_or ts l.index (Leaf 0)) (get_or ts r.index (Leaf 0))

-- the trees ts, and after them the trees of the nodes that follow
abbrev pub trees_onto : List Tree → List Node → List Tree
trees_onto ts [] = ts
trees_onto ts (n ∷ ns) = trees_onto (ts ++ node_tree ts n ∷ []) ns

-- the trees of the nodes, in their order
unfoldable pub trees : List Node → List Tree
trees ns = trees_onto [] ns

-- the tree below the node with this index
unfoldable pub tree : List Node → ℕ → Tree
tree ns i = get_or (trees ns) i (Leaf 0)

-- the tree of a root
abbrev pub root_tree : List Node → Option NodeId → Option Tree
root_tree ns None = None
root_tree ns (Some id) = Some (tree ns id.index)

-- the text of a root
abbrev pub text_of : List Node → Option NodeId → List ℕ
text_of ns root = root_text (root_tree ns root)

-- a root that is none or below the count
abbrev pub IsLive : List Node → Option NodeId → Type 0
IsLive ns None = Unit {0}
IsLive ns (Some id) = id.index < length ns

-- each of these is a node
pub record AreLiveIds (ns : List Node) (ids : List NodeId) : Type 0 where
  pub live : All (λ id. id.index < length ns) ids

-- 1 for a pair, and 0 for a byte
abbrev pub pair_weight : Node → ℕ
pair_weight (Byte b) = 0
pair_weight (Pair l r) = 1

-- the number of pairs
unfoldable pub pair_count : List Node → ℕ
pair_count ns = sum_by pair_weight ns

-- the old nodes are unchanged, new ones follow, and these have at most as many pairs as there are steps from `before`
-- to `after`
pub record Grows (old new : List Node) (before after : ℕ) : Type 0 where
  pub more : List Node
  pub added : new ≡ old ++ more
  pub paid : pair_count more + before ≤ after

-- a pair's children come before it
abbrev pub IsBelow : ℕ → Node → Type 0
IsBelow i (Byte b) = Unit {0}
IsBelow i (Pair l r) = (l.index < i) × (r.index < i)

-- what holds of the nodes of each store, apart from being distinct
pub record IsSound (ns : List Node) : Type 0 where
  pub children : (i : ℕ) (n : Node) → slice_get ns i ≡ Some n → IsBelow i n
  pub balanced : (i : ℕ) → i < length ns → IsBalanced (tree ns i)
  pub short : (i : ℕ) → i < length ns → leaves (tree ns i) ≤ 2 ^ 48

-- the node at i, as its tree determines it
abbrev pub IsNodeAt : List Node → ℕ → Node → Type 0
IsNodeAt ns i (Byte b) = tree ns i ≡ Leaf b
IsNodeAt ns i (Pair l r) = (tree ns i ≡ Fork (tree ns l.index) (tree ns r.index)) × (l.index < i) × (r.index < i)
