use Rattle.std.proofs.Common.{length, sym, subst, ◌∙◌, arith, length-append}
use Rattle.slp_model.proofs.NodesLemmas.{Grows-trans}
use Rattle.share_loader.specs.Symbols.{AreSymbols, symbols_text}
use Rattle.share_loader.specs.Blocks.{ended_text, taken_text}
use Rattle.share_loader.specs.BlocksView.{taken_of}
use Rattle.share_loader.proofs.WordLemmas.{known-grows}
use Rattle.share_loader.proofs.SymbolLemmas.{symbols-none}
use Rattle.share_loader.proofs.CostLemmas.{limit-grows, ended-cost}
use Rattle.share_loader.proofs.BlockLemmas.{IsBlockMade, block-made}
use Rattle.share_loader.proofs.blocks.end_block.Goals as goal

pub returns-in_err-block-clause-cost : goal.returns-in_err-block-clause-cost
returns-in_err-block-clause-cost g c =
    let n = length-append (ended_text c.args.store.now (taken_of c.args.blocks.now)) (symbols_text c.args.store.now c.args.blocks.now.symbols.items) in
    omega (arith, c.block_of.ensures.cost, limit-grows (length (symbols_text c.args.store.now c.args.blocks.now.symbols.items)) (length (taken_text c.args.store.now (taken_of c.args.blocks.now))) (omega (arith, n)))

pub with_block-requires-clause-short : goal.with_block-requires-clause-short
with_block-requires-clause-short g c =
    let made : IsBlockMade c.args.store.now c.block_of.new.store (taken_of c.args.blocks.now) c.in_ok-block.block.index = block-made _ _ _ _ c.block_of.ensures.grows _ c.requires.taken _ c.in_ok-block.ensures.text in
    omega (arith, made.long, c.requires.short)

pub with_block-requires-clause-root : goal.with_block-requires-clause-root
with_block-requires-clause-root g c = (block-made _ _ _ _ c.block_of.ensures.grows (taken_of c.args.blocks.now) c.requires.taken _ c.in_ok-block.ensures.text).live

pub returns-in_err-root-clause-grows : goal.returns-in_err-root-clause-grows
returns-in_err-root-clause-grows g c = Grows-trans _ _ _ _ _ _ c.block_of.ensures.grows c.with_block.ensures.grows

pub returns-in_err-root-clause-cost : goal.returns-in_err-root-clause-cost
returns-in_err-root-clause-cost g c =
    let made : IsBlockMade c.args.store.now c.block_of.new.store (taken_of c.args.blocks.now) c.in_ok-block.block.index = block-made _ _ _ _ c.block_of.ensures.grows _ c.requires.taken _ c.in_ok-block.ensures.text in
    let n = length-append (ended_text c.args.store.now (taken_of c.args.blocks.now)) (symbols_text c.args.store.now c.args.blocks.now.symbols.items) in
    ended-cost _ _ _ _ _ _ _ c.block_of.ensures.cost c.with_block.ensures.cost (omega (arith, n)) (omega (arith, made.long))

pub returns-clause-grows : goal.returns-clause-grows
returns-clause-grows g c = Grows-trans _ _ _ _ _ _ c.block_of.ensures.grows c.with_block.ensures.grows

pub returns-clause-taken : goal.returns-clause-taken
returns-clause-taken g c = record {
  root = c.in_ok-root.ensures.live;
  symbols = subst (AreSymbols c.with_block.new.store 2) (sym c.clear.ensures.items) (symbols-none _ _);
  known = known-grows _ _ _ _ c.with_block.ensures.grows c.args.blocks.now.words.entries.items (known-grows _ _ _ _ c.block_of.ensures.grows c.args.blocks.now.words.entries.items c.requires.taken.known);
}

pub returns-clause-text : goal.returns-clause-text
returns-clause-text g c =
    let made : IsBlockMade c.args.store.now c.block_of.new.store (taken_of c.args.blocks.now) c.in_ok-block.block.index = block-made _ _ _ _ c.block_of.ensures.grows _ c.requires.taken _ c.in_ok-block.ensures.text in
    c.in_ok-root.ensures.text ∙ made.whole

pub returns-clause-cost : goal.returns-clause-cost
returns-clause-cost g c =
    let made : IsBlockMade c.args.store.now c.block_of.new.store (taken_of c.args.blocks.now) c.in_ok-block.block.index = block-made _ _ _ _ c.block_of.ensures.grows _ c.requires.taken _ c.in_ok-block.ensures.text in
    let n = length-append (ended_text c.args.store.now (taken_of c.args.blocks.now)) (symbols_text c.args.store.now c.args.blocks.now.symbols.items) in
    ended-cost _ _ _ _ _ _ _ c.block_of.ensures.cost c.with_block.ensures.cost (omega (arith, n)) (omega (arith, made.long))
