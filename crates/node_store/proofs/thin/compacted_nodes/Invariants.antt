use Rattle.std.proofs.Common.{◌≡◌}
use Rattle.slp_model.proofs.CompactionLemmas.{thin_to}
use Rattle.node_store.proofs.thin.compacted_nodes.Given as goal

abbrev pub invariant-loop-index : goal.invariant-loop-index
invariant-loop-index l = l.thin ≡ thin_to l.store l.moves l.index
