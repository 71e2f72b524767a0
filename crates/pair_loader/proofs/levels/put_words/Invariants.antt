use Rattle.std.proofs.Common.{◌+◌, ◌*◌, ◌≤◌}
use Rattle.slp_model.specs.Nodes.{Grows}
use Rattle.pair_loader.specs.Blocks.{AreBlocks}
use Rattle.pair_loader.proofs.levels.put_words.Given as goal

abbrev pub invariant-loop-index : goal.invariant-loop-index
invariant-loop-index g l = record {
  grows : Grows l.initial.store l.store l.initial.pairs l.pairs;
  made : AreBlocks l.store 3 l.index l.piece l.ids;
  cost : l.pairs ≤ l.initial.pairs + 7 * l.index;
}
