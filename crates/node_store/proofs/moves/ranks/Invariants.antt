use Rattle.std.proofs.Common.{◌≡◌}
use Rattle.slp_model.specs.Thin.{rank}
use Rattle.node_store.specs.Moved.{AreRanks}
use Rattle.node_store.proofs.moves.ranks.Given as goal

abbrev pub invariant-loop-kept : goal.invariant-loop-kept
invariant-loop-kept l = record { ranks : AreRanks l.keep l.numbers.items l.kept-index; next : l.next ≡ rank l.keep l.kept-index }
