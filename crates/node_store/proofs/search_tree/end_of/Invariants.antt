use Rattle.std.proofs.Common.{◌*◌, ◌-◌, length}
use Rattle.node_store.proofs.SearchTreeLemmas.{IsOnWay}
use Rattle.node_store.proofs.search_tree.end_of.Given as goal

abbrev pub invariant-way : goal.invariant-way
invariant-way l = IsOnWay l.nodes l.links l.narrow l.digits l.slot

abbrev pub decreases-way : goal.decreases-way
decreases-way l = 4 * length l.nodes - l.slot
