use Rattle.node_store.proofs.FirstLemmas.{indexed-none}
use Rattle.node_store.proofs.nodes.Nodes.new.Goals as goal

pub invariant_of-result : goal.invariant_of-result
invariant_of-result c = rw (c.new.ensures.items, c.new-2.ensures.items, c.new-3.ensures.items, c.new-4.ensures) indexed-none
