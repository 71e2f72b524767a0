-- The kept nodes alone.
use Rattle.std.specs.Prelude.{◌≡◌, ◌↔◌, ◌⊎◌, ℕ, zero, suc, ◌+◌, ◌<◌, Bool, cond, List, [], ◌∷◌, length, map, slice_get, Option, Some, option_map}
use Rattle.slp_model.specs.declared.NodeId.{NodeId}
use Rattle.slp_model.specs.declared.Node.{Node}
use Rattle.slp_model.specs.declared.Node.TheVariants.{Byte, Pair}
use Rattle.slp_model.specs.Nodes.{tree, IsSound}
use Rattle.slp_model.specs.Distinct.{AreDistinct, AreOfBytes}
use Rattle.slp_model.specs.Kept.{Keeps, IsPlanOf, RootReaches}

-- the number of kept nodes before this index: the new number of a kept node
abbrev pub rank : List Bool → ℕ → ℕ
rank keep zero = 0
rank [] (suc i) = 0
rank (b ∷ bs) (suc i) = cond b 1 0 + rank bs i

-- the node, with other numbers for its children
abbrev pub renumbered : (ℕ → ℕ) → Node → Node
renumbered f (Byte b) = Byte b
renumbered f (Pair l r) = Pair (record { index = f l.index }) (record { index = f r.index })

-- the root under its new number
abbrev pub moved : List Bool → Option NodeId → Option NodeId
moved keep root = option_map (λ id. record { index = rank keep id.index }) root

-- the kept ones, in their order
abbrev pub kept_of : List Node → List Bool → List Node
kept_of [] bs = []
kept_of (n ∷ ns) [] = []
kept_of (n ∷ ns) (b ∷ bs) = cond b (n ∷ kept_of ns bs) (kept_of ns bs)

-- the kept nodes in their order, under their new numbers
abbrev pub thin : List Node → List Bool → List Node
thin ns keep = map (renumbered (rank keep)) (kept_of ns keep)

-- one of the roots is the node j, or above it
abbrev pub AnyReaches : List Node → List (Option NodeId) → ℕ → Type 0
AnyReaches ns [] j = ⊥
AnyReaches ns (root ∷ roots) j = RootReaches ns root j ⊎ AnyReaches ns roots j

-- exactly the nodes that the roots reach are kept
abbrev pub KeepsExactly : List Node → List Bool → List (Option NodeId) → Type 0
KeepsExactly ns keep roots = (j : ℕ) → Keeps keep j ↔ AnyReaches ns roots j

-- ms is a store of exactly the kept nodes, each with its tree, and if these are what the roots reach, so are those of
-- ms
pub record IsCompactionOf (ns : List Node) (keep : List Bool) (ms : List Node) : Type 0 where
  pub sound : IsSound ms
  pub bytes : AreOfBytes ns → AreOfBytes ms
  pub distinct : AreDistinct ns → AreDistinct ms
  pub long : length ms ≡ rank keep (length ns)
  pub live : (i : ℕ) → Keeps keep i → rank keep i < length ms
  pub node : (i : ℕ) (n : Node) → Keeps keep i → slice_get ns i ≡ Some n → slice_get ms (rank keep i) ≡ Some (renumbered (rank keep) n)
  pub trees : (i : ℕ) → Keeps keep i → tree ms (rank keep i) ≡ tree ns i
  pub exact : (j : ℕ) → j < length ms → (i : ℕ) × Keeps keep i × (rank keep i ≡ j)
  pub reached : (roots : List (Option NodeId)) → KeepsExactly ns keep roots → (j : ℕ) → j < length ms → AnyReaches ms (map (moved keep) roots) j

-- the kept nodes of a plan make a store
abbrev pub CompactionLaw : Type 0
CompactionLaw = (ns : List Node) (keep : List Bool) → IsSound ns → IsPlanOf ns keep → IsCompactionOf ns keep (thin ns keep)
