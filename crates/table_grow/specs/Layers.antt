-- The new nodes by height.
use Rattle.std.specs.Prelude.{◌≡◌, ℕ, ◌<◌, ◌≤◌, List, [], length, All, AllPairs, Contains, slice_index_or}
use Rattle.slp_model.specs.declared.NodeId.{NodeId}
use Rattle.slp_model.specs.declared.Node.{Node}
use Rattle.slp_model.specs.Tree.{height}
use Rattle.slp_model.specs.Nodes.{tree}

-- a node from `known` on and below the bound, of this height
pub record IsOfHeight (nodes : List Node) (known bound high : ℕ) (id : NodeId) : Type 0 where
  pub new : known ≤ id.index
  pub live : id.index < bound
  pub high_is : height (tree nodes id.index) ≡ high

-- these nodes in ascending order
pub record IsLayer (nodes : List Node) (known bound high : ℕ) (ids : List NodeId) : Type 0 where
  pub each : All (IsOfHeight nodes known bound high) ids
  pub all : (id : NodeId) → IsOfHeight nodes known bound high id → Contains ids id
  pub rising : AllPairs (λ x y. x.index < y.index) ids

-- a layer for each height, which is at most 68
pub record AreLayers (nodes : List Node) (known bound : ℕ) (layers : List (List NodeId)) : Type 0 where
  pub size : length layers ≡ 69
  pub each : (high : ℕ) → high < 69 → IsLayer nodes known bound high (slice_index_or layers high [])
  pub low : (id : ℕ) → known ≤ id → id < bound → height (tree nodes id) < 69
