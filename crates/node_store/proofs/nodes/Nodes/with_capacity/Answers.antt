use Rattle.node_store.proofs.FirstLemmas.{indexed-none}
use Rattle.node_store.proofs.nodes.Nodes.with_capacity.Goals as goal

pub invariant_of-result : goal.invariant_of-result
invariant_of-result c = rw (c.in_ok-with_capacity.ensures.items, c.in_ok-with_capacity-2.ensures.items, c.in_ok-with_capacity-3.ensures.items, c.new.ensures) indexed-none
