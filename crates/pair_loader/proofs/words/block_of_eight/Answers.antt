use Rattle.std.proofs.Common.{arith, sym, subst}
use Rattle.slp_model.proofs.NodesLemmas.{Grows-none, Grows-trans}
use Rattle.node_store.specs.Blocks.{IsBlockAt}
use Rattle.node_store.proofs.KnownLemmas.{block-grows}
use Rattle.pair_loader.proofs.PairLemmas.{block-of, joined-block, parts-of}
use Rattle.pair_loader.proofs.words.block_of_eight.Goals as goal

pub returns-in-Some-clause-grows : goal.returns-in-Some-clause-grows
returns-in-Some-clause-grows g c = Grows-none c.args.store.now c.args.pairs.now c.args.pairs.now (omega arith)

pub returns-in-Some-clause-block : goal.returns-in-Some-clause-block
returns-in-Some-clause-block g c = subst (λ s. IsBlockAt c.args.store.now 3 s c.in-Some.block.index) c.number_of_eight-bytes.ensures c.in-Some.ensures

pub returns-in_err-right-clause-grows : goal.returns-in_err-right-clause-grows
returns-in_err-right-clause-grows g c = Grows-trans _ _ _ _ _ _ c.block_of_four.ensures.grows c.block_of_four-2.ensures.grows

pub pair_blocks-requires-clause-left : goal.pair_blocks-requires-clause-left
pair_blocks-requires-clause-left g c = block-of _ 2 _ _ (block-grows _ _ _ _ c.block_of_four-2.ensures.grows 2 _ _ c.in_ok-left.ensures.block)

pub pair_blocks-requires-clause-right : goal.pair_blocks-requires-clause-right
pair_blocks-requires-clause-right g c = block-of _ 2 _ _ c.in_ok-right.ensures.block

pub returns-in_err-block-clause-grows : goal.returns-in_err-block-clause-grows
returns-in_err-block-clause-grows g c = Grows-trans _ _ _ _ _ _ (Grows-trans _ _ _ _ _ _ c.block_of_four.ensures.grows c.block_of_four-2.ensures.grows) c.pair_blocks.ensures.grows

pub note_word-requires : goal.note_word-requires
note_word-requires g c =
    let block : IsBlockAt c.pair_blocks.new.self 3 c.args.word.now c.in_ok-block.block.index = joined-block c.block_of_four-2.new.store c.pair_blocks.new.self 2 _ _ c.args.word.now _ _ _ (block-grows _ _ _ _ c.block_of_four-2.ensures.grows 2 _ _ c.in_ok-left.ensures.block) c.in_ok-right.ensures.block
    c.in_ok-block.ensures.live c.in_ok-block.ensures.tree (parts-of 4 _ _ _ c.split_at.ensures.front c.split_at.ensures.back) in
    subst (λ s. IsBlockAt c.pair_blocks.new.self 3 s c.in_ok-block.block.index) (sym c.number_of_eight-bytes.ensures) block

pub returns-clause-grows : goal.returns-clause-grows
returns-clause-grows g c = rw c.note_word.ensures (Grows-trans _ _ _ _ _ _ (Grows-trans _ _ _ _ _ _ c.block_of_four.ensures.grows c.block_of_four-2.ensures.grows) c.pair_blocks.ensures.grows)

pub returns-clause-block : goal.returns-clause-block
returns-clause-block g c =
    let block : IsBlockAt c.pair_blocks.new.self 3 c.args.word.now c.in_ok-block.block.index = joined-block c.block_of_four-2.new.store c.pair_blocks.new.self 2 _ _ c.args.word.now _ _ _ (block-grows _ _ _ _ c.block_of_four-2.ensures.grows 2 _ _ c.in_ok-left.ensures.block) c.in_ok-right.ensures.block
    c.in_ok-block.ensures.live c.in_ok-block.ensures.tree (parts-of 4 _ _ _ c.split_at.ensures.front c.split_at.ensures.back) in
    rw c.note_word.ensures block
