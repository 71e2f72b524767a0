-- Which nodes are kept.
use Rattle.std.specs.Prelude.{◌≡◌, ◌↔◌, ◌⊎◌, ℕ, Bool, true, false, List, length, get_or, slice_get, Option, Some, None}
use Rattle.slp_model.specs.declared.NodeId.{NodeId}
use Rattle.slp_model.specs.declared.Node.{Node}
use Rattle.slp_model.specs.declared.Node.TheVariants.{Pair}

-- the node j is i, or below it
pub data Reaches : List Node → ℕ → ℕ → Type 0 where
  Here : (ns : List Node) (i : ℕ) → Reaches ns i i
  Left : (ns : List Node) (i j : ℕ) (l r : NodeId) → slice_get ns i ≡ Some (Pair l r) → Reaches ns l.index j → Reaches ns i j
  Right : (ns : List Node) (i j : ℕ) (l r : NodeId) → slice_get ns i ≡ Some (Pair l r) → Reaches ns r.index j → Reaches ns i j

-- the node j is the root, or below it; no node is below the root of the empty text
abbrev pub RootReaches : List Node → Option NodeId → ℕ → Type 0
RootReaches ns None j = ⊥
RootReaches ns (Some id) j = Reaches ns id.index j

-- the node i is kept
abbrev pub Keeps : List Bool → ℕ → Type 0
Keeps keep i = get_or keep i false ≡ true

-- the root is none, or its node is kept
abbrev pub IsKeptRoot : List Bool → Option NodeId → Type 0
IsKeptRoot keep None = Unit {0}
IsKeptRoot keep (Some id) = Keeps keep id.index

-- there is a truth value for each node, and both children of each kept pair are kept
pub record IsPlanOf (ns : List Node) (keep : List Bool) : Type 0 where
  pub long : length keep ≡ length ns
  pub closed : (i : ℕ) (l r : NodeId) → slice_get ns i ≡ Some (Pair l r) → Keeps keep i → Keeps keep l.index × Keeps keep r.index

-- exactly the nodes that were kept before and those of P are kept
abbrev pub AddsExactly : List Bool → List Bool → (ℕ → Type 0) → Type 0
AddsExactly old new P = (j : ℕ) → Keeps new j ↔ (Keeps old j ⊎ P j)
