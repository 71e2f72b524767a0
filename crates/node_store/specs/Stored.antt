-- What is true of the fields of each store.
use Rattle.std.specs.Prelude.{◌≡◌, ◌≢◌, ℕ, ◌^◌, ◌≤◌, ◌⊎◌, List, [], ◌∷◌, ◌++◌, length, slice_get, Some}
use Rattle.slp_model.specs.declared.Node.{Node}
use Rattle.slp_model.specs.Tree.{Tree, leaves, height, IsBalanced}
use Rattle.slp_model.specs.Distinct.{AreOfBytes, IsOfByte}
use Rattle.slp_model.specs.Nodes.{tree, trees, node_tree, IsSound, IsBelow}
use Rattle.node_store.specs.declared.Facts.{Facts}

-- each of the nodes has the value of f on its tree
pub record AreOfTrees (f : Tree → ℕ) (ns : List Node) (xs : List ℕ) : Type 0 where
  pub as_long : length xs ≡ length ns
  pub each : (i x : ℕ) → slice_get xs i ≡ Some x → x ≡ f (tree ns i)

-- the nodes are sound, and these are the lengths of their texts and their heights
pub record IsStored (ns : List Node) (lens heights : List ℕ) : Type 0 where
  pub sound : IsSound ns
  pub bytes : AreOfBytes ns
  pub lens_are : AreOfTrees leaves ns lens
  pub heights_are : AreOfTrees height ns heights

-- a node that may follow ns, with its facts
pub record IsNext (ns : List Node) (n : Node) (f : Facts) : Type 0 where
  pub below : IsBelow (length ns) n
  pub byte : IsOfByte n
  pub balanced : IsBalanced (node_tree (trees ns) n)
  pub len : f.len ≡ leaves (node_tree (trees ns) n)
  pub height_is : f.height ≡ height (node_tree (trees ns) n)
  pub short : leaves (node_tree (trees ns) n) ≤ 2 ^ 48

-- n isn't among the nodes
abbrev pub IsNew : List Node → Node → Type 0
IsNew ns n = (i : ℕ) → slice_get ns i ≢ Some n

-- the nodes are unchanged, or n, which isn't among them, is added last
abbrev pub IsKept : List Node → List Node → Node → Type 0
IsKept old new n = (new ≡ old) ⊎ ((new ≡ old ++ n ∷ []) × IsNew old n)
