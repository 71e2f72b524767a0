use Rattle.std.proofs.Common.{arith}
use Rattle.slp_model.proofs.NodesLemmas.{Grows-none}
use Rattle.slp_concat.proofs.settle.node_of.Goals as goal

pub returns-in-Made-clause-grows : goal.returns-in-Made-clause-grows
returns-in-Made-clause-grows g c = Grows-none c.args.store.now c.args.pairs.now c.args.pairs.now (omega arith)
