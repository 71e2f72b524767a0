use Rattle.std.proofs.Common.{subst}
use Rattle.node_store.specs.Narrow.{AreUnique}
use Rattle.node_store.proofs.nodes.Nodes.len.Goals as goal

pub returns-clause-unique : goal.returns-clause-unique
returns-clause-unique c = let P = AreUnique in subst P c.self.view_is c.self.invariant.unique
