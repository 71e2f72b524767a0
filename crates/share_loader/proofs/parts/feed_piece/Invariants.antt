use Rattle.std.proofs.Common.{◌≡◌, ◌+◌, ◌≤◌, ◌++◌, length}
use Rattle.slp_model.specs.Nodes.{Grows}
use Rattle.share_loader.specs.Sharer.{IsKept, kept_text, kept_count, kept_cost}
use Rattle.share_loader.specs.PartsView.{kept_of}
use Rattle.share_loader.proofs.parts.feed_piece.Given as goal

abbrev pub invariant-loop-rest : goal.invariant-loop-rest
invariant-loop-rest g l = record {
  grows : Grows l.initial.store l.store l.initial.pairs l.pairs;
  kept : IsKept l.store (kept_of l.parts);
  text : kept_text l.store (kept_of l.parts) ++ l.rest ≡ kept_text l.initial.store (kept_of l.initial.parts) ++ l.piece;
  cost : l.pairs + kept_count (kept_of l.parts) + kept_cost l.initial.store (kept_of l.initial.parts) + length l.rest ≤ l.initial.pairs + kept_count (kept_of l.initial.parts) + length l.piece + kept_cost l.store (kept_of l.parts);
}

abbrev pub decreases-loop-rest : goal.decreases-loop-rest
decreases-loop-rest g l = length l.rest
