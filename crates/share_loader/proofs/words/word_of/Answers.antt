use Rattle.std.proofs.Common.{arith}
use Rattle.slp_model.proofs.NodesLemmas.{Grows-none}
use Rattle.share_loader.proofs.words.word_of.Goals as goal

pub returns-in-Some-clause-grows : goal.returns-in-Some-clause-grows
returns-in-Some-clause-grows g c = Grows-none c.args.store.now c.args.pairs.now c.args.pairs.now (omega arith)
