use Rattle.std.proofs.Common.{rules, ◌≡◌, length, vec_len, ap, ◌∙◌, arith}
use Rattle.slp_model.proofs.NodesLemmas.{Grows-trans}
use Rattle.share_loader.specs.Sharer.{kept_text}
use Rattle.share_loader.specs.PartsView.{kept_of}
use Rattle.share_loader.specs.BlocksView.{taken_of}
use Rattle.share_loader.proofs.SharerLemmas.{kept-within, IsAllTaken, all-taken}
use Rattle.share_loader.proofs.parts.finish_parts.Goals as goal

pub returns-in_err-end_block-clause-grows : goal.returns-in_err-end_block-clause-grows
returns-in_err-end_block-clause-grows g c = Grows-trans _ _ _ _ _ _ c.take_words.ensures.grows c.end_block.ensures.grows

pub returns-in_err-end_block-clause-cost : goal.returns-in_err-end_block-clause-cost
returns-in_err-end_block-clause-cost g c =
    let t : IsAllTaken c.args.store.now c.take_words.new.store (kept_of c.args.parts) (taken_of c.take_words.new.blocks) = all-taken _ _ _ _ _ _ c.deref-2.ensures.value c.in_ok-take_words.ensures.within c.in_ok-take_words.ensures.all c.in_ok-take_words.ensures.text in
    let few : vec_len c.args.parts.blocks.symbols ≡ length c.args.parts.blocks.symbols.items = search rules in
    omega (arith, t.all, few, c.in_ok-take_words.ensures.cost, c.in_ok-take_words.ensures.within, c.end_block.ensures.cost, ap length c.deref-2.ensures.value)

pub returns-clause-grows : goal.returns-clause-grows
returns-clause-grows g c = Grows-trans _ _ _ _ _ _ c.take_words.ensures.grows c.end_block.ensures.grows

pub returns-clause-cost : goal.returns-clause-cost
returns-clause-cost g c =
    let t : IsAllTaken c.args.store.now c.take_words.new.store (kept_of c.args.parts) (taken_of c.take_words.new.blocks) = all-taken _ _ _ _ _ _ c.deref-2.ensures.value c.in_ok-take_words.ensures.within c.in_ok-take_words.ensures.all c.in_ok-take_words.ensures.text in
    let few : vec_len c.args.parts.blocks.symbols ≡ length c.args.parts.blocks.symbols.items = search rules in
    omega (arith, t.all, few, c.in_ok-take_words.ensures.cost, c.in_ok-take_words.ensures.within, c.end_block.ensures.cost, ap length c.deref-2.ensures.value)

pub returns-clause-text : goal.returns-clause-text
returns-clause-text g c =
    let t : IsAllTaken c.args.store.now c.take_words.new.store (kept_of c.args.parts) (taken_of c.take_words.new.blocks) = all-taken _ _ _ _ _ _ c.deref-2.ensures.value c.in_ok-take_words.ensures.within c.in_ok-take_words.ensures.all c.in_ok-take_words.ensures.text in
    c.in_ok-end_block.ensures.text ∙ t.reads

pub returns-in_err-root-clause-cost : goal.returns-in_err-root-clause-cost
returns-in_err-root-clause-cost g c =
    omega (arith, kept-within c.args.store.now (kept_of c.args.parts) (length (kept_text c.args.store.now (kept_of c.args.parts))) (omega arith), c.short_root.ensures.cost, ap length c.deref.ensures.value)

pub returns-then-len-lt-MIN_WORD_BYTES-clause-cost : goal.returns-then-len-lt-MIN_WORD_BYTES-clause-cost
returns-then-len-lt-MIN_WORD_BYTES-clause-cost g c =
    omega (arith, kept-within c.args.store.now (kept_of c.args.parts) (length (kept_text c.args.store.now (kept_of c.args.parts))) (omega arith), c.short_root.ensures.cost, ap length c.deref.ensures.value)
