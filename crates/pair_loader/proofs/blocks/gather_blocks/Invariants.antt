use Rattle.std.proofs.Common.{◌≡◌, ◌+◌, ◌≤◌, ◌^◌, length, vec_len, None}
use Rattle.slp_model.specs.Tree.{root_leaves}
use Rattle.slp_model.specs.Nodes.{Grows, IsLive, root_tree, AreLiveIds}
use Rattle.pair_loader.specs.Pending.{stack_of, stack_text}
use Rattle.pair_loader.proofs.Counters.{gather, gather_cost}
use Rattle.pair_loader.proofs.blocks.gather_blocks.Given as goal

abbrev pub invariant-loop-block : goal.invariant-loop-block
invariant-loop-block g l = record {
  grows : Grows l.initial.store l.store l.initial.pairs l.pairs;
  live : AreLiveIds l.store l.blocks.items;
  root : IsLive l.store l.tail;
  tree : gather (stack_of l.store l.blocks.items) (root_tree l.store l.tail) ≡ gather (stack_of l.initial.store l.initial.blocks.items) None;
  short : length (stack_text (stack_of l.store l.blocks.items)) + root_leaves (root_tree l.store l.tail) ≤ 2 ^ 48;
  cost : l.pairs + gather_cost (stack_of l.store l.blocks.items) (root_tree l.store l.tail) ≤ l.initial.pairs + gather_cost (stack_of l.initial.store l.initial.blocks.items) None;
}

abbrev pub decreases-loop-block : goal.decreases-loop-block
decreases-loop-block g l = vec_len l.blocks
