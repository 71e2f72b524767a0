use Rattle.std.proofs.Common.{◌∙◌, arith}
use Rattle.slp_model.proofs.NodesLemmas.{Grows-trans}
use Rattle.share_loader.proofs.SymbolLemmas.{symbol-grows, short-of_two, short-of_three, third-of}
use Rattle.share_loader.proofs.rounds.triple_of.Goals as goal

pub bridge_of-requires-clause-short : goal.bridge_of-requires-clause-short
bridge_of-requires-clause-short g c = short-of_three _ _ _ c.requires.group.within c.requires.short

pub pair_of-requires-clause-short : goal.pair_of-requires-clause-short
pair_of-requires-clause-short g c = short-of_two _ _ _ (omega (arith, c.requires.group.within)) c.requires.short

pub pair_of-requires-2-clause-right : goal.pair_of-requires-2-clause-right
pair_of-requires-2-clause-right g c = symbol-grows _ _ _ _ c.pair_of.ensures.grows _ (c.requires.symbols.each 2 _ (omega (arith, c.requires.group.within)))

pub pair_of-requires-2-clause-short : goal.pair_of-requires-2-clause-short
pair_of-requires-2-clause-short g c = (third-of _ _ _ _ c.pair_of.ensures.grows _ c.args.symbols.now _ c.in_ok-two.two c.requires.symbols c.requires.group.within c.requires.short c.in_ok-two.ensures.text).short

pub returns-in_err-three-2-clause-grows : goal.returns-in_err-three-2-clause-grows
returns-in_err-three-2-clause-grows g c = Grows-trans _ _ _ _ _ _ c.pair_of.ensures.grows c.pair_of-2.ensures.grows

pub returns-clause-grows : goal.returns-clause-grows
returns-clause-grows g c = Grows-trans _ _ _ _ _ _ c.pair_of.ensures.grows c.pair_of-2.ensures.grows

pub returns-clause-text : goal.returns-clause-text
returns-clause-text g c =
    c.in_ok-three-2.ensures.text ∙ (third-of _ _ _ _ c.pair_of.ensures.grows _ c.args.symbols.now _ c.in_ok-two.two c.requires.symbols c.requires.group.within c.requires.short c.in_ok-two.ensures.text).reads
