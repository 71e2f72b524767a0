use Rattle.std.proofs.Common.{◌≤◌}
use Rattle.pair_loader.specs.Pending.{AreRising, stack_of}
use Rattle.pair_loader.proofs.blocks.next_height.Given as goal

abbrev pub invariant-loop-height : goal.invariant-loop-height
invariant-loop-height l = record {
  low : l.height ≤ 9;
  rising : AreRising l.height (stack_of l.store l.blocks.items);
}

abbrev pub decreases-loop-height : goal.decreases-loop-height
decreases-loop-height l = l.height
