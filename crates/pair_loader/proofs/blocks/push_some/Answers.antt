use Rattle.std.proofs.Common.{arith, ◌≡◌, ◌+◌, ◌≤◌, ◌^◌, ◌++◌, length, take, ap, sym, subst, ◌∙◌, length-append}
use Rattle.std.proofs.lemmas.List.{length-take-le}
use Rattle.slp_model.specs.Tree.{text, leaves}
use Rattle.slp_model.specs.Nodes.{tree}
use Rattle.slp_model.proofs.TreeLemmas.{length-text}
use Rattle.slp_model.proofs.NodesLemmas.{Grows-trans}
use Rattle.pair_loader.specs.Pending.{AreRising, stack_of, stack_text}
use Rattle.pair_loader.proofs.BlockLemmas.{stack_of-grows, live-grows}
use Rattle.pair_loader.proofs.blocks.push_some.Goals as goal

pub block_of-requires-clause-long : goal.block_of-requires-clause-long
block_of-requires-clause-long g c = length-take-le c.size-count.result c.args.piece.now (omega (arith, c.size-count.ensures, c.next_height-height.ensures.short)) ∙ c.size-count.ensures

pub push_block-requires-clause-blocks : goal.push_block-requires-clause-blocks
push_block-requires-clause-blocks g c = live-grows _ _ _ _ c.block_of.ensures.grows c.args.blocks.now.items c.requires.pending.live

pub push_block-requires-clause-block : goal.push_block-requires-clause-block
push_block-requires-clause-block g c = c.in_ok-block.ensures.block.live

pub push_block-requires-clause-height : goal.push_block-requires-clause-height
push_block-requires-clause-height g c = sym c.in_ok-block.ensures.block.block.high

pub push_block-requires-clause-full : goal.push_block-requires-clause-full
push_block-requires-clause-full g c = c.in_ok-block.ensures.block.block.full

pub push_block-requires-clause-rising : goal.push_block-requires-clause-rising
push_block-requires-clause-rising g c =
    let stays : stack_of c.block_of.new.store c.args.blocks.now.items ≡ stack_of c.args.store.now c.args.blocks.now.items = stack_of-grows _ _ _ _ c.block_of.ensures.grows c.args.blocks.now.items c.requires.pending.live in
    subst (AreRising c.next_height-height.result) (sym stays) c.next_height-height.ensures.rising

pub push_block-requires-clause-short : goal.push_block-requires-clause-short
push_block-requires-clause-short g c =
    let stays : stack_of c.block_of.new.store c.args.blocks.now.items ≡ stack_of c.args.store.now c.args.blocks.now.items = stack_of-grows _ _ _ _ c.block_of.ensures.grows c.args.blocks.now.items c.requires.pending.live in
    let taken : length (take c.size-count.result c.args.piece.now) ≡ c.size-count.result = length-take-le c.size-count.result c.args.piece.now (omega (arith, c.size-count.ensures, c.next_height-height.ensures.short)) in
    let long : leaves (tree c.block_of.new.store c.in_ok-block.block.index) ≡ c.size-count.result = omega (arith, length-text (tree c.block_of.new.store c.in_ok-block.block.index), ap length c.in_ok-block.ensures.block.block.reads, taken) in
    subst (λ w. length (stack_text w) + leaves (tree c.block_of.new.store c.in_ok-block.block.index) ≤ 2 ^ 48) (sym stays) (omega (arith, long, c.size-count.ensures, c.next_height-height.ensures.short, c.requires.short))

pub returns-in_err-push_block-clause-grows : goal.returns-in_err-push_block-clause-grows
returns-in_err-push_block-clause-grows g c = Grows-trans _ _ _ _ _ _ c.block_of.ensures.grows c.push_block.ensures.grows

pub returns-clause-grows : goal.returns-clause-grows
returns-clause-grows g c = Grows-trans _ _ _ _ _ _ c.block_of.ensures.grows c.push_block.ensures.grows

pub returns-clause-text : goal.returns-clause-text
returns-clause-text g c =
    let stays : stack_of c.block_of.new.store c.args.blocks.now.items ≡ stack_of c.args.store.now c.args.blocks.now.items = stack_of-grows _ _ _ _ c.block_of.ensures.grows c.args.blocks.now.items c.requires.pending.live in
    c.in_ok-push_block.ensures.text
    ∙ (ap (λ w. stack_text w ++ text (tree c.block_of.new.store c.in_ok-block.block.index)) stays
    ∙ ap (λ w. stack_text (stack_of c.args.store.now c.args.blocks.now.items) ++ w) c.in_ok-block.ensures.block.block.reads)

pub returns-clause-pending : goal.returns-clause-pending
returns-clause-pending g c =
    let stays : stack_of c.block_of.new.store c.args.blocks.now.items ≡ stack_of c.args.store.now c.args.blocks.now.items = stack_of-grows _ _ _ _ c.block_of.ensures.grows c.args.blocks.now.items c.requires.pending.live in
    let reads : text (tree c.block_of.new.store c.in_ok-block.block.index) ≡ take c.size-count.result c.args.piece.now = c.in_ok-block.ensures.block.block.reads in
    let taken : length (take c.size-count.result c.args.piece.now) ≡ c.size-count.result = length-take-le c.size-count.result c.args.piece.now (omega (arith, c.size-count.ensures, c.next_height-height.ensures.short)) in
    let all : length (stack_text (stack_of c.push_block.new.store c.push_block.new.blocks.items)) ≡ length (stack_text (stack_of c.args.store.now c.args.blocks.now.items)) + c.size-count.result =
    ap length (c.in_ok-push_block.ensures.text ∙ ap (λ w. stack_text w ++ text (tree c.block_of.new.store c.in_ok-block.block.index)) stays)
    ∙ omega (arith, ap length reads, taken, length-append (stack_text (stack_of c.args.store.now c.args.blocks.now.items)) (text (tree c.block_of.new.store c.in_ok-block.block.index))) in
    record {
      live = c.in_ok-push_block.ensures.live;
      rising = c.in_ok-push_block.ensures.rising;
      short = omega (arith, all, c.size-count.ensures, c.next_height-height.ensures.short, c.requires.short);
    }
