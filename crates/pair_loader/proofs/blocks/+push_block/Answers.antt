use Rattle.std.proofs.Common.{rules, arith, ◌≡◌, ◌+◌, ◌≤◌, ◌^◌, ◌++◌, ◌∷◌, length, sym, subst, append_assoc}
use Rattle.std.proofs.lemmas.Result.{IfOk-equal}
use Rattle.slp_model.specs.Tree.{text, leaves, height}
use Rattle.slp_model.specs.Nodes.{tree, AreLiveIds}
use Rattle.slp_model.proofs.NodesLemmas.{Grows-trans, Grows-none}
use Rattle.node_store.specs.Blocks.{IsFull}
use Rattle.pair_loader.specs.Pending.{AreRising, stack_of, stack_text}
use Rattle.pair_loader.proofs.BlockLemmas.{IsPopped, popped, stack_of-grows, live-grows, pair-rising}
use Rattle.pair_loader.proofs.blocks.+push_block.Goals as goal

pub pair-requires-clause-short : goal.pair-requires-clause-short
pair-requires-clause-short g t c =
    let p : IsPopped c.args.store.now c.args.blocks.now.items c.pop.new.self.items c.in-Some.top = popped _ _ _ _ c.in-Some.ensures.items c.requires.blocks in
    omega (arith, p.long, c.requires.short)

pub push_block-requires : goal.push_block-requires
push_block-requires g t c =
    let p : IsPopped c.args.store.now c.args.blocks.now.items c.pop.new.self.items c.in-Some.top = popped _ _ _ _ c.in-Some.ensures.items c.requires.blocks in
    let same : height (tree c.args.store.now c.in-Some.top.index) ≡ height (tree c.args.store.now c.args.block.index) = omega (arith, c.height.ensures.height, c.requires.height) in
    let old : AreRising (height (tree c.args.store.now c.args.block.index)) (tree c.args.store.now c.in-Some.top.index ∷ stack_of c.args.store.now c.pop.new.self.items) = subst (λ w. AreRising (height (tree c.args.store.now c.args.block.index)) w) p.stack (subst (λ h. AreRising h (stack_of c.args.store.now c.args.blocks.now.items)) c.requires.height c.requires.rising) in
    let up = pair-rising (stack_of c.args.store.now c.pop.new.self.items) (tree c.args.store.now c.in-Some.top.index) (tree c.args.store.now c.args.block.index) old c.requires.full same in
    let stays : stack_of c.pair.new.self c.pop.new.self.items ≡ stack_of c.args.store.now c.pop.new.self.items = stack_of-grows c.args.store.now c.pair.new.self c.args.pairs.now c.pair.new.pairs c.pair.ensures.grows c.pop.new.self.items p.live in
    let blocks : AreLiveIds c.pair.new.self c.pop.new.self.items = live-grows c.args.store.now c.pair.new.self c.args.pairs.now c.pair.new.pairs c.pair.ensures.grows c.pop.new.self.items p.live in
    let full : IsFull (tree c.pair.new.self c.in_ok-pair.pair.index) = rw c.in_ok-pair.ensures.tree up.0 in
    let high : c.args.height + 1 ≡ height (tree c.pair.new.self c.in_ok-pair.pair.index) = rw c.in_ok-pair.ensures.tree (omega (arith, same, c.requires.height)) in
    let rising : AreRising (c.args.height + 1) (stack_of c.pair.new.self c.pop.new.self.items) = rw (stays, high, c.in_ok-pair.ensures.tree) up.1 in
    let short : length (stack_text (stack_of c.pair.new.self c.pop.new.self.items)) + leaves (tree c.pair.new.self c.in_ok-pair.pair.index) ≤ 2 ^ 48 = rw (stays, c.in_ok-pair.ensures.tree) (omega (arith, p.long, c.requires.short)) in
    search (rules, blocks, full, high, rising, short)

pub returns-then-height-clause-grows : goal.returns-then-height-clause-grows
returns-then-height-clause-grows g t c = Grows-trans _ _ _ _ _ _ c.pair.ensures.grows c.push_block.ensures.grows

pub returns-clause-grows : goal.returns-clause-grows
returns-clause-grows g t c = Grows-none c.args.store.now c.args.pairs.now c.args.pairs.now (omega arith)

pub returns-then-height-clause-text : goal.returns-then-height-clause-text
returns-then-height-clause-text g t c =
    let p : IsPopped c.args.store.now c.args.blocks.now.items c.pop.new.self.items c.in-Some.top = popped _ _ _ _ c.in-Some.ensures.items c.requires.blocks in
    let stays : stack_of c.pair.new.self c.pop.new.self.items ≡ stack_of c.args.store.now c.pop.new.self.items = stack_of-grows c.args.store.now c.pair.new.self c.args.pairs.now c.pair.new.pairs c.pair.ensures.grows c.pop.new.self.items p.live in
    let e : stack_text (stack_of c.pair.new.self c.pop.new.self.items) ++ text (tree c.pair.new.self c.in_ok-pair.pair.index) ≡ stack_text (stack_of c.args.store.now c.args.blocks.now.items) ++ text (tree c.args.store.now c.args.block.index) =
    rw (stays, c.in_ok-pair.ensures.tree, p.stack) (sym (append_assoc (stack_text (stack_of c.args.store.now c.pop.new.self.items)) (text (tree c.args.store.now c.in-Some.top.index)) (text (tree c.args.store.now c.args.block.index)))) in
    search (rules, IfOk-equal, e)
