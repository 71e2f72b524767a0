use Rattle.std.proofs.Common.{arith, ◌≡◌, ◌+◌, ◌<◌, ap}
use Rattle.slp_model.specs.Tree.{Fork, leaves, height}
use Rattle.slp_model.specs.Nodes.{tree}
use Rattle.slp_model.proofs.NodesLemmas.{tree-grows, Grows-trans, Grows-length}
use Rattle.slp_model.proofs.JoinLemmas.{IsStepRight, IsStepLeft, step_right, step_left, join-near}
use Rattle.slp_concat.proofs.+join.Goals as goal

pub settle-requires : goal.settle-requires
settle-requires g t c =
    let same : tree c.args.store.now c.args.a.index ≡ Fork (tree c.args.store.now c.children.result.0.index) (tree c.args.store.now c.children.result.1.index) = c.children.ensures.tree in
    let far : height (tree c.args.store.now c.args.b.index) + 1 < height (Fork (tree c.args.store.now c.children.result.0.index) (tree c.args.store.now c.children.result.1.index)) = omega (arith, ap height same) in
    let step : IsStepRight (tree c.args.store.now c.children.result.0.index) (tree c.args.store.now c.children.result.1.index) (tree c.args.store.now c.args.b.index) = step_right _ _ _ c.children.ensures.balanced c.height-h.ensures.balanced far in
    let stays : tree c.join.new.store c.children.result.0.index ≡ tree c.args.store.now c.children.result.0.index = tree-grows c.args.store.now c.join.new.store c.args.pairs.now c.join.new.pairs c.join.ensures.grows c.children.result.0.index (omega (arith, c.children.ensures.left, c.requires.a)) in
    record {
      left = omega (arith, c.children.ensures.left, c.requires.a, Grows-length _ _ _ _ c.join.ensures.grows);
      right = c.in_ok-t.ensures.live;
      low = rw (stays, c.in_ok-t.ensures.tree) (omega (arith, step.low));
      high = rw (stays, c.in_ok-t.ensures.tree) step.high;
      short = rw (stays, c.in_ok-t.ensures.tree) (omega (arith, step.leaves_is, ap leaves same, c.requires.short));
    }

pub returns-then-g-h-clause-grows : goal.returns-then-g-h-clause-grows
returns-then-g-h-clause-grows g t c =
    Grows-trans _ _ _ _ _ _ c.join.ensures.grows c.settle.ensures.grows

pub returns-then-g-h-clause-tree : goal.returns-then-g-h-clause-tree
returns-then-g-h-clause-tree g t c =
    let same : tree c.args.store.now c.args.a.index ≡ Fork (tree c.args.store.now c.children.result.0.index) (tree c.args.store.now c.children.result.1.index) = c.children.ensures.tree in
    let far : height (tree c.args.store.now c.args.b.index) + 1 < height (Fork (tree c.args.store.now c.children.result.0.index) (tree c.args.store.now c.children.result.1.index)) = omega (arith, ap height same) in
    let step : IsStepRight (tree c.args.store.now c.children.result.0.index) (tree c.args.store.now c.children.result.1.index) (tree c.args.store.now c.args.b.index) = step_right _ _ _ c.children.ensures.balanced c.height-h.ensures.balanced far in
    let stays : tree c.join.new.store c.children.result.0.index ≡ tree c.args.store.now c.children.result.0.index = tree-grows c.args.store.now c.join.new.store c.args.pairs.now c.join.new.pairs c.join.ensures.grows c.children.result.0.index (omega (arith, c.children.ensures.left, c.requires.a)) in
    rw (same, step.is, ← stays, ← c.in_ok-t.ensures.tree) (c.settle.ensures.settled_right (rw (stays, c.in_ok-t.ensures.tree) step.low))

pub settle-requires-then-h-g : goal.settle-requires-then-h-g
settle-requires-then-h-g g t c =
    let same : tree c.args.store.now c.args.b.index ≡ Fork (tree c.args.store.now c.children-then-h-g.result.0.index) (tree c.args.store.now c.children-then-h-g.result.1.index) = c.children-then-h-g.ensures.tree in
    let far : height (tree c.args.store.now c.args.a.index) + 1 < height (Fork (tree c.args.store.now c.children-then-h-g.result.0.index) (tree c.args.store.now c.children-then-h-g.result.1.index)) = omega (arith, ap height same) in
    let step : IsStepLeft (tree c.args.store.now c.args.a.index) (tree c.args.store.now c.children-then-h-g.result.0.index) (tree c.args.store.now c.children-then-h-g.result.1.index) = step_left _ _ _ c.height-g.ensures.balanced c.children-then-h-g.ensures.balanced far in
    let stays : tree c.join-then-h-g.new.store c.children-then-h-g.result.1.index ≡ tree c.args.store.now c.children-then-h-g.result.1.index = tree-grows c.args.store.now c.join-then-h-g.new.store c.args.pairs.now c.join-then-h-g.new.pairs c.join-then-h-g.ensures.grows c.children-then-h-g.result.1.index (omega (arith, c.children-then-h-g.ensures.right, c.requires.b)) in
    record {
      left = c.in_ok-t-2.ensures.live;
      right = omega (arith, c.children-then-h-g.ensures.right, c.requires.b, Grows-length _ _ _ _ c.join-then-h-g.ensures.grows);
      low = rw (stays, c.in_ok-t-2.ensures.tree) step.high;
      high = rw (stays, c.in_ok-t-2.ensures.tree) (omega (arith, step.low));
      short = rw (stays, c.in_ok-t-2.ensures.tree) (omega (arith, step.leaves_is, ap leaves same, c.requires.short));
    }

pub returns-then-h-g-clause-grows : goal.returns-then-h-g-clause-grows
returns-then-h-g-clause-grows g t c =
    Grows-trans _ _ _ _ _ _ c.join-then-h-g.ensures.grows c.settle-then-h-g.ensures.grows

pub returns-then-h-g-clause-tree : goal.returns-then-h-g-clause-tree
returns-then-h-g-clause-tree g t c =
    let same : tree c.args.store.now c.args.b.index ≡ Fork (tree c.args.store.now c.children-then-h-g.result.0.index) (tree c.args.store.now c.children-then-h-g.result.1.index) = c.children-then-h-g.ensures.tree in
    let far : height (tree c.args.store.now c.args.a.index) + 1 < height (Fork (tree c.args.store.now c.children-then-h-g.result.0.index) (tree c.args.store.now c.children-then-h-g.result.1.index)) = omega (arith, ap height same) in
    let step : IsStepLeft (tree c.args.store.now c.args.a.index) (tree c.args.store.now c.children-then-h-g.result.0.index) (tree c.args.store.now c.children-then-h-g.result.1.index) = step_left _ _ _ c.height-g.ensures.balanced c.children-then-h-g.ensures.balanced far in
    let stays : tree c.join-then-h-g.new.store c.children-then-h-g.result.1.index ≡ tree c.args.store.now c.children-then-h-g.result.1.index = tree-grows c.args.store.now c.join-then-h-g.new.store c.args.pairs.now c.join-then-h-g.new.pairs c.join-then-h-g.ensures.grows c.children-then-h-g.result.1.index (omega (arith, c.children-then-h-g.ensures.right, c.requires.b)) in
    rw (same, step.is, ← stays, ← c.in_ok-t-2.ensures.tree) (c.settle-then-h-g.ensures.settled_left (rw (stays, c.in_ok-t-2.ensures.tree) step.low))

pub returns-clause-tree : goal.returns-clause-tree
returns-clause-tree g t c =
    rw (join-near (tree c.args.store.now c.args.a.index) (tree c.args.store.now c.args.b.index) (omega (arith, c.height-g.ensures.height, c.height-h.ensures.height)) (omega (arith, c.height-g.ensures.height, c.height-h.ensures.height))) c.pair.ensures.tree
