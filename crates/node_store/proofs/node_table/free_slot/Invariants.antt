use Rattle.node_store.specs.NodeTable.{AreTaken}
use Rattle.node_store.proofs.node_table.free_slot.Given as goal

abbrev pub invariant-loop-step : goal.invariant-loop-step
invariant-loop-step l = AreTaken l.slots l.home l.step
