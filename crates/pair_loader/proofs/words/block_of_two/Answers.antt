use Rattle.std.proofs.Common.{arith, sym, subst}
use Rattle.slp_model.proofs.NodesLemmas.{Grows-none}
use Rattle.node_store.specs.Blocks.{IsBlockAt}
use Rattle.pair_loader.proofs.PairLemmas.{list-of-two}
use Rattle.pair_loader.proofs.words.block_of_two.Goals as goal

pub returns-in-Some-clause-grows : goal.returns-in-Some-clause-grows
returns-in-Some-clause-grows g c = Grows-none c.args.store.now c.args.pairs.now c.args.pairs.now (omega arith)

pub returns-in-Some-clause-block : goal.returns-in-Some-clause-block
returns-in-Some-clause-block g c = subst (λ s. IsBlockAt c.args.store.now 1 s c.in-Some.block.index) c.number_of_two-bytes.ensures c.in-Some.ensures

pub note_word-requires : goal.note_word-requires
note_word-requires g c =
    let block : IsBlockAt c.pair_of_bytes.new.store 1 c.args.word.now c.in_ok-block.block.index = subst (λ s. IsBlockAt c.pair_of_bytes.new.store 1 s c.in_ok-block.block.index) (list-of-two c.args.word.now c.requires) c.in_ok-block.ensures.block in
    subst (λ s. IsBlockAt c.pair_of_bytes.new.store 1 s c.in_ok-block.block.index) (sym c.number_of_two-bytes.ensures) block

pub returns-clause-grows : goal.returns-clause-grows
returns-clause-grows g c = rw c.note_word.ensures (c.pair_of_bytes.ensures.grows)

pub returns-clause-block : goal.returns-clause-block
returns-clause-block g c =
    let block : IsBlockAt c.pair_of_bytes.new.store 1 c.args.word.now c.in_ok-block.block.index = subst (λ s. IsBlockAt c.pair_of_bytes.new.store 1 s c.in_ok-block.block.index) (list-of-two c.args.word.now c.requires) c.in_ok-block.ensures.block in
    rw c.note_word.ensures block
