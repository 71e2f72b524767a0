use Rattle.std.proofs.Common.{◌≡◌, ◌+◌, ◌≤◌, ◌++◌, length, vec_len}
use Rattle.slp_model.specs.Nodes.{Grows}
use Rattle.pair_loader.specs.Pending.{stack_of, stack_text, IsPending}
use Rattle.pair_loader.proofs.blocks.push_piece.Given as goal

abbrev pub invariant-loop-rest : goal.invariant-loop-rest
invariant-loop-rest g l = record {
  grows : Grows l.initial.store l.store l.initial.pairs l.pairs;
  pending : IsPending l.store l.blocks.items;
  text : stack_text (stack_of l.store l.blocks.items) ++ l.rest ≡ stack_text (stack_of l.initial.store l.initial.blocks.items) ++ l.piece;
  cost : l.pairs + vec_len l.blocks + length l.rest ≤ l.initial.pairs + vec_len l.initial.blocks + length l.piece;
}

abbrev pub decreases-loop-rest : goal.decreases-loop-rest
decreases-loop-rest g l = length l.rest
