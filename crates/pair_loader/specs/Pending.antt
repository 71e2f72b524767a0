-- The blocks of a loader, and the bytes that it was fed.
use Rattle.std.specs.Prelude.{ℕ, ◌+◌, ◌≤◌, ◌^◌, List, [], ◌∷◌, ◌++◌, map, length, reverse, Option, Some, None}
use Rattle.slp_model.specs.declared.NodeId.{NodeId}
use Rattle.slp_model.specs.declared.Node.{Node}
use Rattle.slp_model.specs.Tree.{Tree, text, height}
use Rattle.slp_model.specs.Nodes.{tree, AreLiveIds}
use Rattle.node_store.specs.Blocks.{IsFull}

-- full trees, each higher than the one before, the first of height at least h
abbrev pub AreRising : ℕ → List Tree → Type 0
AreRising h [] = Unit {0}
AreRising h (a ∷ rest) = (h ≤ height a) × IsFull a × AreRising (height a + 1) rest

-- the trees of the blocks, the last one first
abbrev pub stack_of : List Node → List NodeId → List Tree
stack_of ns blocks = reverse (map (λ id. tree ns id.index) blocks)

-- the texts of such trees one after the other: the first tree has the last bytes
abbrev pub stack_text : List Tree → List ℕ
stack_text [] = []
stack_text (a ∷ rest) = stack_text rest ++ text a

-- blocks of the store: full trees, at most one of each height, the lowest one last
pub record IsPending (ns : List Node) (blocks : List NodeId) : Type 0 where
  pub live : AreLiveIds ns blocks
  pub rising : AreRising 0 (stack_of ns blocks)
  pub short : length (stack_text (stack_of ns blocks)) ≤ 2 ^ 48

-- a loader that may be used with a store of these nodes; after an error it has nothing
abbrev pub IsLoader : List Node → Option (List NodeId) → Type 0
IsLoader ns None = Unit {0}
IsLoader ns (Some blocks) = IsPending ns blocks

-- the bytes that the loader was fed
abbrev pub fed : List Node → Option (List NodeId) → List ℕ
fed ns None = []
fed ns (Some blocks) = stack_text (stack_of ns blocks)

-- the number of pending blocks
abbrev pub pending_count : Option (List NodeId) → ℕ
pending_count None = 0
pending_count (Some blocks) = length blocks
