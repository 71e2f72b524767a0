use Rattle.std.proofs.Common.{◌≡◌, ℕ, ◌+◌, ◌*◌, ◌≤◌, get_or}
use Rattle.slp_model.specs.declared.NodeId.{NodeId}
use Rattle.slp_model.specs.Nodes.{Grows}
use Rattle.pair_loader.specs.Blocks.{AreBlocks}
use Rattle.pair_loader.proofs.levels.pair_neighbours.Given as goal

abbrev pub invariant-loop-index : goal.invariant-loop-index
invariant-loop-index g l = record {
  grows : Grows l.initial.store l.store l.initial.pairs l.pairs;
  made : AreBlocks l.store (l.height + 1) l.index l.piece l.ids;
  rest : (i : ℕ) (d : NodeId) → 2 * l.index ≤ i → get_or l.ids i d ≡ get_or l.initial.ids i d;
  cost : l.pairs ≤ l.initial.pairs + l.index;
}
