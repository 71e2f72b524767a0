use Rattle.std.proofs.Common.{arith}
use Rattle.slp_model.proofs.NodesLemmas.{Grows-none}
use Rattle.pair_loader.proofs.Loader.feed.Goals as goal

pub returns-in_err-blocks-clause-grows : goal.returns-in_err-blocks-clause-grows
returns-in_err-blocks-clause-grows g c = Grows-none c.args.store.now c.args.pairs.now c.args.pairs.now (omega arith)
