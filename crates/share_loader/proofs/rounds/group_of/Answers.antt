use Rattle.std.proofs.Common.{arith}
use Rattle.slp_model.proofs.NodesLemmas.{Grows-none}
use Rattle.share_loader.proofs.SymbolLemmas.{short-of_two}
use Rattle.share_loader.proofs.rounds.group_of.Goals as goal

pub pair_of-requires-clause-short : goal.pair_of-requires-clause-short
pair_of-requires-clause-short g c = short-of_two _ _ _ (omega (arith, c.requires.group.within, c.in-2.is)) c.requires.short

pub returns-in-1-clause-grows : goal.returns-in-1-clause-grows
returns-in-1-clause-grows g c = Grows-none c.args.store.now c.args.pairs.now c.args.pairs.now (omega arith)
