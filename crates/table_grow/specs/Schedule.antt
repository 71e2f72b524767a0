-- The orders in which the new nodes may be processed.
use Rattle.std.specs.Prelude.{◌≡◌, ◌≢◌, ℕ, ◌<◌, ◌≤◌, List, ◌∷◌, ◌++◌, length, Some, All, AllPairs, Contains, slice_get}
use Rattle.slp_model.specs.declared.NodeId.{NodeId}
use Rattle.slp_model.specs.declared.Node.{Node}
use Rattle.slp_model.specs.declared.Node.TheVariants.{Pair}

-- a new child comes before
abbrev pub IsBefore : ℕ → List NodeId → NodeId → Type 0
IsBefore known before child = known ≤ child.index → Contains before child

-- a list of the new nodes, each once, each after those of its children that are new
pub record IsSchedule (nodes : List Node) (known : ℕ) (ids : List NodeId) : Type 0 where
  pub new : All (λ id. (known ≤ id.index) × (id.index < length nodes)) ids
  pub all : (id : NodeId) → known ≤ id.index → id.index < length nodes → Contains ids id
  pub once : AllPairs (λ x y. x.index ≢ y.index) ids
  pub children : (before after : List NodeId) (id l r : NodeId) → ids ≡ before ++ id ∷ after → slice_get nodes id.index ≡ Some (Pair l r)
      → IsBefore known before l × IsBefore known before r
