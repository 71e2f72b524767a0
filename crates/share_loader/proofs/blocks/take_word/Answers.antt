use Rattle.std.proofs.Common.{rules, ◌≡◌, ◌≤◌, ◌^◌, length, take, ap, ◌∙◌, arith}
use Rattle.std.proofs.lemmas.List.{length-take-le}
use Rattle.slp_model.proofs.NodesLemmas.{Grows-trans}
use Rattle.share_loader.specs.Blocks.{ended_text, taken_text}
use Rattle.share_loader.specs.BlocksView.{taken_of}
use Rattle.share_loader.proofs.CostLemmas.{limit-grows, cost-grows, cost-block, word-cost}
use Rattle.share_loader.proofs.BlockLemmas.{IsPushed, pushed, all-ended, taken-long}
use Rattle.share_loader.proofs.blocks.take_word.Goals as goal

pub returns-then-not-ends_block-clause-text : goal.returns-then-not-ends_block-clause-text
returns-then-not-ends_block-clause-text g c = (pushed _ _ _ _ c.push_word.ensures.grows (taken_of c.args.blocks.now) (taken_of c.push_word.new.blocks) c.requires.taken c.push_word.ensures.root _ c.in_ok-push_word.ensures.text).reads

pub returns-then-not-ends_block-clause-cost : goal.returns-then-not-ends_block-clause-cost
returns-then-not-ends_block-clause-cost g c =
    let p : IsPushed c.args.store.now c.push_word.new.store (taken_of c.args.blocks.now) (taken_of c.push_word.new.blocks) (take c.word_len-len.result c.args.text.now) = pushed _ _ _ _ c.push_word.ensures.grows _ _ c.requires.taken c.push_word.ensures.root _ c.in_ok-push_word.ensures.text in
    omega (
      arith,
      c.push_word.ensures.cost,
      c.in_ok-push_word.ensures.len,
      length-take-le c.word_len-len.result c.args.text.now c.word_len-len.ensures.within,
      cost-grows (length (ended_text c.args.store.now (taken_of c.args.blocks.now))) (length (ended_text c.push_word.new.store (taken_of c.push_word.new.blocks))) (length (taken_text c.args.store.now (taken_of c.args.blocks.now))) (length (taken_text c.push_word.new.store (taken_of c.push_word.new.blocks))) (omega (arith, ap length p.ended)) (omega (arith, p.long)),
    )

pub end_block-requires-clause-short : goal.end_block-requires-clause-short
end_block-requires-clause-short g c =
    let p : IsPushed c.args.store.now c.push_word.new.store (taken_of c.args.blocks.now) (taken_of c.push_word.new.blocks) (take c.word_len-len.result c.args.text.now) = pushed _ _ _ _ c.push_word.ensures.grows _ _ c.requires.taken c.push_word.ensures.root _ c.in_ok-push_word.ensures.text in
    omega (arith, p.long, length-take-le c.word_len-len.result c.args.text.now c.word_len-len.ensures.within, c.word_len-len.ensures.within, c.requires.short)

pub returns-in_err-end_block-clause-grows : goal.returns-in_err-end_block-clause-grows
returns-in_err-end_block-clause-grows g c = Grows-trans _ _ _ _ _ _ c.push_word.ensures.grows c.end_block.ensures.grows

pub returns-in_err-end_block-clause-most : goal.returns-in_err-end_block-clause-most
returns-in_err-end_block-clause-most g c =
    let p : IsPushed c.args.store.now c.push_word.new.store (taken_of c.args.blocks.now) (taken_of c.push_word.new.blocks) (take c.word_len-len.result c.args.text.now) = pushed _ _ _ _ c.push_word.ensures.grows _ _ c.requires.taken c.push_word.ensures.root _ c.in_ok-push_word.ensures.text in
    let n = length-take-le c.word_len-len.result c.args.text.now c.word_len-len.ensures.within in
    word-cost _ _ _ _ _ _ _ _ _ c.push_word.ensures.cost c.in_ok-push_word.ensures.len c.end_block.ensures.cost c.word_len-len.ensures.within (omega (arith, p.long, n))

pub returns-clause-most : goal.returns-clause-most
returns-clause-most g c =
    let p : IsPushed c.args.store.now c.push_word.new.store (taken_of c.args.blocks.now) (taken_of c.push_word.new.blocks) (take c.word_len-len.result c.args.text.now) = pushed _ _ _ _ c.push_word.ensures.grows _ _ c.requires.taken c.push_word.ensures.root _ c.in_ok-push_word.ensures.text in
    let n = length-take-le c.word_len-len.result c.args.text.now c.word_len-len.ensures.within in
    word-cost _ _ _ _ _ _ _ _ _ c.push_word.ensures.cost c.in_ok-push_word.ensures.len c.end_block.ensures.cost c.word_len-len.ensures.within (omega (arith, p.long, n))

pub returns-clause-grows : goal.returns-clause-grows
returns-clause-grows g c = Grows-trans _ _ _ _ _ _ c.push_word.ensures.grows c.end_block.ensures.grows

pub returns-clause-text : goal.returns-clause-text
returns-clause-text g c =
    all-ended c.end_block.new.store (taken_of c.end_block.new.blocks) c.in_ok-end_block.ensures.symbols
    ∙ (c.in_ok-end_block.ensures.text ∙ (pushed _ _ _ _ c.push_word.ensures.grows (taken_of c.args.blocks.now) (taken_of c.push_word.new.blocks) c.requires.taken c.push_word.ensures.root _ c.in_ok-push_word.ensures.text).reads)

pub returns-clause-cost : goal.returns-clause-cost
returns-clause-cost g c =
    let p : IsPushed c.args.store.now c.push_word.new.store (taken_of c.args.blocks.now) (taken_of c.push_word.new.blocks) (take c.word_len-len.result c.args.text.now) = pushed _ _ _ _ c.push_word.ensures.grows _ _ c.requires.taken c.push_word.ensures.root _ c.in_ok-push_word.ensures.text in
    let n : length (take c.word_len-len.result c.args.text.now) ≡ c.word_len-len.result = length-take-le c.word_len-len.result c.args.text.now c.word_len-len.ensures.within in
    let many : 2 ^ 16 ≤ length c.push_word.new.blocks.symbols.items = search (rules, c.if-not-ends_block.ensures.many) in
    let all : length (taken_text c.end_block.new.store (taken_of c.end_block.new.blocks)) ≡ length (ended_text c.end_block.new.store (taken_of c.end_block.new.blocks)) = ap length (all-ended c.end_block.new.store (taken_of c.end_block.new.blocks) c.in_ok-end_block.ensures.symbols) in
    let ended : length (ended_text c.end_block.new.store (taken_of c.end_block.new.blocks)) ≡ length (taken_text c.push_word.new.store (taken_of c.push_word.new.blocks)) = ap length c.in_ok-end_block.ensures.text in
    let block = cost-block (length (ended_text c.args.store.now (taken_of c.args.blocks.now))) (length (ended_text c.end_block.new.store (taken_of c.end_block.new.blocks))) (length (taken_text c.args.store.now (taken_of c.args.blocks.now))) (length (taken_text c.end_block.new.store (taken_of c.end_block.new.blocks)))
    (omega (arith, many, ended, ap length p.ended, taken-long c.push_word.new.store (taken_of c.push_word.new.blocks))) (omega (arith, all, ended, p.long)) in
    let limit = limit-grows (length (taken_text c.push_word.new.store (taken_of c.push_word.new.blocks))) (length (taken_text c.end_block.new.store (taken_of c.end_block.new.blocks))) (omega (arith, all, ended)) in
    omega (arith, block, limit, c.push_word.ensures.cost, c.in_ok-push_word.ensures.len, c.in_ok-end_block.ensures.len, n, c.end_block.ensures.cost)
