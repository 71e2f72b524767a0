use Rattle.std.proofs.Common.{◌+◌, ◌/◌, ◌^◌, ◌≤◌, length}
use Rattle.slp_model.specs.Nodes.{Grows}
use Rattle.pair_loader.specs.Blocks.{AreBlocks}
use Rattle.pair_loader.proofs.levels.block_by_levels.Given as goal

abbrev pub invariant-loop-level : goal.invariant-loop-level
invariant-loop-level g l = record {
  grows : Grows l.initial.store l.store l.initial.pairs l.pairs;
  room : length l.piece / 2 ^ l.level ≤ length l.ids;
  made : AreBlocks l.store l.level (length l.piece / 2 ^ l.level) l.piece l.ids;
  cost : l.pairs + length l.piece / 2 ^ l.level ≤ l.initial.pairs + length l.piece / 8;
}
