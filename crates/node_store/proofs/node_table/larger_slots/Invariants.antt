use Rattle.node_store.proofs.NodeTableLemmas.{AreMovedTo}
use Rattle.node_store.proofs.node_table.larger_slots.Given as goal

abbrev pub invariant-loop-slot : goal.invariant-loop-slot
invariant-loop-slot l = AreMovedTo l.old l.new.items l.slot-index
