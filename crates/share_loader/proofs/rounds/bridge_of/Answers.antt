use Rattle.std.proofs.Common.{◌≡◌, ◌<◌, ◌++◌, length, ap, sym, ◌∙◌, arith}
use Rattle.slp_model.specs.Tree.{Fork, text, height, leaves}
use Rattle.slp_model.specs.Nodes.{tree}
use Rattle.slp_model.proofs.NodesLemmas.{tree-grows, Grows-trans}
use Rattle.share_loader.proofs.SymbolLemmas.{IsBridge, bridge-of, text-of_four}
use Rattle.share_loader.proofs.rounds.bridge_of.Goals as goal

pub pair-requires-2-clause-near : goal.pair-requires-2-clause-near
pair-requires-2-clause-near g c =
    let live : c.children.result.1.index < length c.args.store.now = omega (arith, c.children.ensures.right, c.requires.middle.live) in
    let s : tree c.pair.new.self c.children.result.1.index ≡ tree c.args.store.now c.children.result.1.index = tree-grows _ _ _ _ c.pair.ensures.grows _ live in
    let r : tree c.pair.new.self c.args.right.node.index ≡ tree c.args.store.now c.args.right.node.index = tree-grows _ _ _ _ c.pair.ensures.grows _ c.requires.right.live in
    (omega (arith, ap height s, ap height r, ap height c.children.ensures.tree, c.children.ensures.balanced.0.0, c.children.ensures.balanced.0.1, c.requires.middle.high, c.requires.right.high, c.requires.right_low), omega (arith, ap height s, ap height r, ap height c.children.ensures.tree, c.children.ensures.balanced.0.0, c.children.ensures.balanced.0.1, c.requires.middle.high, c.requires.right.high, c.requires.right_low))

pub pair-requires-2-clause-short : goal.pair-requires-2-clause-short
pair-requires-2-clause-short g c =
    let live : c.children.result.1.index < length c.args.store.now = omega (arith, c.children.ensures.right, c.requires.middle.live) in
    let s : tree c.pair.new.self c.children.result.1.index ≡ tree c.args.store.now c.children.result.1.index = tree-grows _ _ _ _ c.pair.ensures.grows _ live in
    let r : tree c.pair.new.self c.args.right.node.index ≡ tree c.args.store.now c.args.right.node.index = tree-grows _ _ _ _ c.pair.ensures.grows _ c.requires.right.live in
    omega (arith, ap leaves s, ap leaves r, ap leaves c.children.ensures.tree, c.requires.short)

pub pair-requires-3-clause-near : goal.pair-requires-3-clause-near
pair-requires-3-clause-near g c =
    let live : c.children.result.1.index < length c.args.store.now = omega (arith, c.children.ensures.right, c.requires.middle.live) in
    let b : IsBridge c.args.store.now c.pair-2.new.self c.args.left.node.index c.children.result.0.index c.children.result.1.index c.args.right.node.index c.in_ok-before.before.index c.in_ok-behind.behind.index =
    bridge-of _ _ _ _ _ _ c.pair.ensures.grows c.pair-2.ensures.grows _ _ _ _ _ _ live c.requires.right.live c.in_ok-before.ensures.live c.in_ok-before.ensures.tree c.in_ok-behind.ensures.tree in
    (omega (arith, ap height b.first_pair, ap height b.second_pair, ap height c.children.ensures.tree, c.requires.left.high, c.requires.middle.high, c.requires.right.high, c.requires.left_low, c.requires.right_low), omega (arith, ap height b.first_pair, ap height b.second_pair, ap height c.children.ensures.tree, c.requires.left.high, c.requires.middle.high, c.requires.right.high, c.requires.left_low, c.requires.right_low))

pub pair-requires-3-clause-short : goal.pair-requires-3-clause-short
pair-requires-3-clause-short g c =
    let live : c.children.result.1.index < length c.args.store.now = omega (arith, c.children.ensures.right, c.requires.middle.live) in
    let b : IsBridge c.args.store.now c.pair-2.new.self c.args.left.node.index c.children.result.0.index c.children.result.1.index c.args.right.node.index c.in_ok-before.before.index c.in_ok-behind.behind.index =
    bridge-of _ _ _ _ _ _ c.pair.ensures.grows c.pair-2.ensures.grows _ _ _ _ _ _ live c.requires.right.live c.in_ok-before.ensures.live c.in_ok-before.ensures.tree c.in_ok-behind.ensures.tree in
    omega (arith, ap leaves b.first_pair, ap leaves b.second_pair, ap leaves c.children.ensures.tree, c.requires.short)

pub returns-in_err-node-clause-grows : goal.returns-in_err-node-clause-grows
returns-in_err-node-clause-grows g c = Grows-trans _ _ _ _ _ _ (Grows-trans _ _ _ _ _ _ c.pair.ensures.grows c.pair-2.ensures.grows) c.pair-3.ensures.grows

pub returns-clause-grows : goal.returns-clause-grows
returns-clause-grows g c = Grows-trans _ _ _ _ _ _ (Grows-trans _ _ _ _ _ _ c.pair.ensures.grows c.pair-2.ensures.grows) c.pair-3.ensures.grows

pub returns-clause-symbol : goal.returns-clause-symbol
returns-clause-symbol g c =
    let live : c.children.result.1.index < length c.args.store.now = omega (arith, c.children.ensures.right, c.requires.middle.live) in
    let b : IsBridge c.args.store.now c.pair-2.new.self c.args.left.node.index c.children.result.0.index c.children.result.1.index c.args.right.node.index c.in_ok-before.before.index c.in_ok-behind.behind.index =
    bridge-of _ _ _ _ _ _ c.pair.ensures.grows c.pair-2.ensures.grows _ _ _ _ _ _ live c.requires.right.live c.in_ok-before.ensures.live c.in_ok-before.ensures.tree c.in_ok-behind.ensures.tree in
    record {
      live = c.in_ok-node.ensures.live;
      high = omega (arith, ap height c.in_ok-node.ensures.tree, ap height b.first_pair, ap height b.second_pair, ap height c.children.ensures.tree, c.requires.left.high, c.requires.middle.high, c.requires.right.high, c.requires.left_low, c.requires.right_low);
    }

pub returns-clause-text : goal.returns-clause-text
returns-clause-text g c =
    let live : c.children.result.1.index < length c.args.store.now = omega (arith, c.children.ensures.right, c.requires.middle.live) in
    let b : IsBridge c.args.store.now c.pair-2.new.self c.args.left.node.index c.children.result.0.index c.children.result.1.index c.args.right.node.index c.in_ok-before.before.index c.in_ok-behind.behind.index =
    bridge-of _ _ _ _ _ _ c.pair.ensures.grows c.pair-2.ensures.grows _ _ _ _ _ _ live c.requires.right.live c.in_ok-before.ensures.live c.in_ok-before.ensures.tree c.in_ok-behind.ensures.tree in
    ap text c.in_ok-node.ensures.tree
    ∙ (ap (λ x. text x ++ text (tree c.pair-2.new.self c.in_ok-behind.behind.index)) b.first_pair
    ∙ (ap (λ x. text (Fork (tree c.args.store.now c.args.left.node.index) (tree c.args.store.now c.children.result.0.index)) ++ text x) b.second_pair
    ∙ (text-of_four (text (tree c.args.store.now c.args.left.node.index)) (text (tree c.args.store.now c.children.result.0.index)) (text (tree c.args.store.now c.children.result.1.index)) (text (tree c.args.store.now c.args.right.node.index))
    ∙ ap (λ x. text (tree c.args.store.now c.args.left.node.index) ++ (text x ++ text (tree c.args.store.now c.args.right.node.index))) (sym c.children.ensures.tree))))
