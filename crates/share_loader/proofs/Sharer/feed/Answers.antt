use Rattle.std.proofs.Common.{arith}
use Rattle.slp_model.proofs.NodesLemmas.{Grows-none}
use Rattle.share_loader.proofs.Sharer.feed.Goals as goal

pub returns-in_err-parts-clause-grows : goal.returns-in_err-parts-clause-grows
returns-in_err-parts-clause-grows g c = Grows-none c.args.store.now c.args.pairs.now c.args.pairs.now (omega arith)
