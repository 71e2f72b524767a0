use Rattle.std.proofs.Common.{rules, arith, ◌≡◌, ◌+◌, Some, [], ap, sym, ◌∙◌, refl}
use Rattle.slp_model.specs.Tree.{leaves, root_leaves}
use Rattle.slp_model.specs.Nodes.{tree, root_tree}
use Rattle.slp_model.specs.Join.{join_roots}
use Rattle.slp_model.proofs.NodesLemmas.{Grows-trans, Grows-none}
use Rattle.pair_loader.specs.Pending.{stack_of}
use Rattle.pair_loader.proofs.Counters.{gather, gather_cost}
use Rattle.pair_loader.proofs.StackLemmas.{gather-shape}
use Rattle.pair_loader.proofs.GatherLemmas.{gather-limit}
use Rattle.pair_loader.proofs.BlockLemmas.{IsPopped, popped, stack_of-grows, live-grows, root_leaves-joined}
use Rattle.pair_loader.proofs.blocks.gather_blocks.Goals as goal

pub loop-block-init : goal.loop-block-init
loop-block-init g c = record {
  grows = Grows-none c.args.store.now c.args.pairs.now c.args.pairs.now (omega arith);
  live = c.requires.live;
  root = tt;
  tree = refl;
  short = omega (arith, c.requires.short);
  cost = omega arith;
}

pub concat-requires-clause-short : goal.concat-requires-clause-short
concat-requires-clause-short g c =
    let p : IsPopped c.loop-block.store c.loop-block.blocks.items c.pop.new.self.items c.in-Some.block = popped _ _ _ _ c.in-Some.ensures.items c.loop-block.invariant.live in
    omega (arith, p.long, c.loop-block.invariant.short)

pub returns-in_err-tail-clause-grows : goal.returns-in_err-tail-clause-grows
returns-in_err-tail-clause-grows g c = Grows-trans _ _ _ _ _ _ c.loop-block.invariant.grows c.concat.ensures.grows

pub returns-in_err-tail-clause-cost : goal.returns-in_err-tail-clause-cost
returns-in_err-tail-clause-cost g c =
    let p : IsPopped c.loop-block.store c.loop-block.blocks.items c.pop.new.self.items c.in-Some.block = popped _ _ _ _ c.in-Some.ensures.items c.loop-block.invariant.live in
    omega (arith, c.concat.ensures.cost, c.loop-block.invariant.cost, ap (λ w. gather_cost w (root_tree c.loop-block.store c.loop-block.tail)) p.stack, gather-limit (stack_of c.args.store.now c.args.blocks.items) c.requires.rising)

pub loop-block-preserved : goal.loop-block-preserved
loop-block-preserved g c =
    let p : IsPopped c.loop-block.store c.loop-block.blocks.items c.pop.new.self.items c.in-Some.block = popped _ _ _ _ c.in-Some.ensures.items c.loop-block.invariant.live in
    let stays : stack_of c.concat.new.store c.pop.new.self.items ≡ stack_of c.loop-block.store c.pop.new.self.items = stack_of-grows c.loop-block.store c.concat.new.store c.loop-block.pairs c.concat.new.pairs c.concat.ensures.grows c.pop.new.self.items p.live in
    let tail : root_tree c.concat.new.store c.in_ok-tail.tail ≡ join_roots (Some (tree c.loop-block.store c.in-Some.block.index)) (root_tree c.loop-block.store c.loop-block.tail) = c.in_ok-tail.ensures.tree in
    let long : root_leaves (root_tree c.concat.new.store c.in_ok-tail.tail) ≡ leaves (tree c.loop-block.store c.in-Some.block.index) + root_leaves (root_tree c.loop-block.store c.loop-block.tail) = root_leaves-joined _ _ _ c.in_ok-tail.ensures.joined in
    record {
      grows = Grows-trans _ _ _ _ _ _ c.loop-block.invariant.grows c.concat.ensures.grows;
      live = live-grows c.loop-block.store c.concat.new.store c.loop-block.pairs c.concat.new.pairs c.concat.ensures.grows c.pop.new.self.items p.live;
      root = c.in_ok-tail.ensures.live;
      tree = rw (stays, tail) (ap (λ w. gather w (root_tree c.loop-block.store c.loop-block.tail)) (sym p.stack) ∙ c.loop-block.invariant.tree);
      short = rw stays (omega (arith, long, p.long, c.loop-block.invariant.short));
      cost = rw (stays, tail) (omega (arith, c.concat.ensures.cost, c.loop-block.invariant.cost, ap (λ w. gather_cost w (root_tree c.loop-block.store c.loop-block.tail)) p.stack));
    }

pub returns-clause-tree : goal.returns-clause-tree
returns-clause-tree g c =
    let empty : c.loop-block.blocks.items ≡ [] = search (rules, c.in_default.ensures, c.pop.ensures) in
    ap (λ xs. gather (stack_of c.loop-block.store xs) (root_tree c.loop-block.store c.loop-block.tail)) (sym empty)
    ∙ (c.loop-block.invariant.tree ∙ gather-shape 0 (stack_of c.args.store.now c.args.blocks.items) c.requires.rising)

pub returns-clause-cost : goal.returns-clause-cost
returns-clause-cost g c = omega (arith, c.loop-block.invariant.cost, gather-limit (stack_of c.args.store.now c.args.blocks.items) c.requires.rising)
