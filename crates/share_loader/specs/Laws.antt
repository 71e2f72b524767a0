-- What holds of sharers.
use Rattle.std.specs.Prelude.{◌≡◌, ℕ, ◌+◌, ◌*◌, ◌/◌, List, Option, Some}
use Rattle.span_types.specs.Fibonacci.{height_limit}
use Rattle.slp_model.specs.declared.Node.{Node}
use Rattle.slp_model.specs.Nodes.{Grows}
use Rattle.share_loader.specs.Blocks.{all_cost}
use Rattle.share_loader.specs.Sharer.{Kept, unfed, IsSharer, fed, open_count, ended_cost}

-- a sharer may be used with its store after this has grown, was fed the same bytes, and may have cost as much
pub record SharerGrows : Type 0 where
  pub used : (old new : List Node) (p q : ℕ) (sharer : Option Kept) → Grows old new p q → IsSharer old sharer → IsSharer new sharer
  pub fed : (old new : List Node) (p q : ℕ) (sharer : Option Kept) → Grows old new p q → IsSharer old sharer → fed new sharer ≡ fed old sharer
  pub cost : (old new : List Node) (p q : ℕ) (sharer : Option Kept) → Grows old new p q → IsSharer old sharer → ended_cost new sharer ≡ ended_cost old sharer

-- before the first byte it was fed nothing, and nothing was to be paid; and what all blocks of n bytes cost
pub record SharerStarts : Type 0 where
  pub used : (ns : List Node) → IsSharer ns (Some unfed)
  pub count : open_count (Some unfed) ≡ 0
  pub cost : (ns : List Node) → ended_cost ns (Some unfed) ≡ 0
  pub all : (n : ℕ) → n + all_cost n ≡ n + (n / 65536 + 1) * (6 * height_limit n + 1)
