use Rattle.std.proofs.Common.{arith}
use Rattle.slp_model.proofs.NodesLemmas.{Grows-none, Grows-trans}
use Rattle.pair_loader.proofs.load.Goals as goal

pub returns-in_err-loader-clause-grows : goal.returns-in_err-loader-clause-grows
returns-in_err-loader-clause-grows g c = Grows-none c.args.store.now c.args.pairs.now c.args.pairs.now (omega arith)

pub returns-clause-grows : goal.returns-clause-grows
returns-clause-grows g c = Grows-trans _ _ _ _ _ _ c.feed.ensures.grows c.finish.ensures.grows
