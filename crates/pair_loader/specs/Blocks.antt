-- The blocks of the parts of a piece.
use Rattle.std.specs.Prelude.{ℕ, ◌^◌, ◌<◌, List, get_or}
use Rattle.std.specs.Fork.{slice_chunk}
use Rattle.slp_model.specs.declared.NodeId.{NodeId}
use Rattle.slp_model.specs.declared.Node.{Node}
use Rattle.node_store.specs.Blocks.{IsBlockAt}

-- the first `count` ids are in their order the blocks of height h of the parts of 2^h bytes of s
pub record AreBlocks (ns : List Node) (h count : ℕ) (s : List ℕ) (ids : List NodeId) : Type 0 where
  pub each : (i : ℕ) (d : NodeId) → i < count → IsBlockAt ns h (slice_chunk s (2 ^ h) i) (get_or ids i d).index
