use Rattle.node_store.proofs.NodeTableLemmas.{IsSearched}
use Rattle.node_store.proofs.node_table.find.Given as goal

abbrev pub invariant-loop-step : goal.invariant-loop-step
invariant-loop-step l = IsSearched l.all l.slots l.home l.narrow l.step
