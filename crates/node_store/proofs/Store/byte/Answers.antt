use Rattle.std.proofs.Common.{arith}
use Rattle.slp_model.specs.declared.Node.TheVariants.{Byte}
use Rattle.slp_model.specs.Nodes.{pair_count}
use Rattle.slp_model.proofs.NodesLemmas.{Grows-none}
use Rattle.node_store.proofs.StoredLemmas.{kept-grows}
use Rattle.node_store.proofs.Store.byte.Goals as goal

pub returns-clause-grows : goal.returns-clause-grows
unfolding pair_count
returns-clause-grows c = kept-grows c.args.self.now c.insert.new.self (Byte c.args.b) 0 0 (rw c.found_next.ensures.same at c.insert.ensures.kept) (omega arith)

pub returns-in-Some-clause-grows : goal.returns-in-Some-clause-grows
returns-in-Some-clause-grows c = rw c.found_next.ensures.same (Grows-none c.args.self.now 0 0 (omega arith))
