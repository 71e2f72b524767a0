use Rattle.std.proofs.Common.{rules, arith, ◌≡◌, ◌+◌, ◌-◌, ◌*◌, ◌≤◌, ◌<◌, ◌^◌, length, Some, None, Option, sym, ap, subst, ◌∙◌}
use Rattle.slp_model.specs.Tree.{Tree, Fork, leaves, height, IsNear, IsBalanced, root_leaves, root_height, root_text}
use Rattle.slp_model.specs.Nodes.{tree, root_tree, Grows}
use Rattle.slp_model.specs.Join.{IsJoinedRoot, root_cost}
use Rattle.slp_split.specs.Split.{IsSplit, split_cost}
use Rattle.slp_model.proofs.NodesLemmas.{tree-grows, root_tree-grows, Grows-trans, Grows-length, Grows-none}
use Rattle.slp_split.proofs.SplitLemmas.{split-whole, high-from-leaves, split-leaves, split-left, split-right, split-left-paid, split-right-paid, split-left-most, split-right-most}
use Rattle.slp_split.proofs.+split_node.Goals as goal

pub returns-then-count-eq0-clause-grows : goal.returns-then-count-eq0-clause-grows
returns-then-count-eq0-clause-grows g t c =
    Grows-none c.args.store.now c.args.pairs.now c.args.pairs.now (omega arith)

pub returns-then-count-len-clause-grows : goal.returns-then-count-len-clause-grows
returns-then-count-len-clause-grows g t c =
    Grows-none c.args.store.now c.args.pairs.now c.args.pairs.now (omega arith)

pub returns-then-count-len-clause-split : goal.returns-then-count-len-clause-split
returns-then-count-len-clause-split g t c =
    let e : leaves (tree c.args.store.now c.args.id.index) ≡ c.args.count = omega (arith, c.len-len.ensures.len) in
    subst (λ n. IsSplit (tree c.args.store.now c.args.id.index) n (Some (tree c.args.store.now c.args.id.index)) None) e (split-whole (tree c.args.store.now c.args.id.index))

pub children-requires-clause-high : goal.children-requires-clause-high
children-requires-clause-high g t c =
    high-from-leaves (tree c.args.store.now c.args.id.index) (omega (arith, c.len-len.ensures.len, c.requires.to))

pub concat-requires-clause-short : goal.concat-requires-clause-short
concat-requires-clause-short g t c =
    let stays : tree c.split_node.new.store c.children.result.1.index ≡ tree c.args.store.now c.children.result.1.index = tree-grows c.args.store.now c.split_node.new.store c.args.pairs.now c.split_node.new.pairs c.split_node.ensures.grows c.children.result.1.index (omega (arith, c.children.ensures.right, c.requires.live)) in
    rw stays (omega (arith, split-leaves (tree c.args.store.now c.children.result.0.index) c.args.count _ _ (omega (arith, c.len-middle.ensures.len)) c.in_ok-low.ensures.split, ap leaves c.children.ensures.tree, c.len-len.ensures.len, c.len-len.ensures.short))

pub returns-in_err-joined-clause-grows : goal.returns-in_err-joined-clause-grows
returns-in_err-joined-clause-grows g t c =
    Grows-trans _ _ _ _ _ _ c.split_node.ensures.grows c.concat.ensures.grows

pub returns-in_err-joined-clause-cost : goal.returns-in_err-joined-clause-cost
returns-in_err-joined-clause-cost g t c =
    let stays : tree c.split_node.new.store c.children.result.1.index ≡ tree c.args.store.now c.children.result.1.index = tree-grows c.args.store.now c.split_node.new.store c.args.pairs.now c.split_node.new.pairs c.split_node.ensures.grows c.children.result.1.index (omega (arith, c.children.ensures.right, c.requires.live)) in
    let cost : c.concat.new.pairs ≤ c.split_node.new.pairs + root_cost (root_tree c.split_node.new.store c.in_ok-low.high) (Some (tree c.args.store.now c.children.result.1.index)) = subst (λ w. c.concat.new.pairs ≤ c.split_node.new.pairs + root_cost (root_tree c.split_node.new.store c.in_ok-low.high) (Some w)) stays c.concat.ensures.cost in
    rw c.children.ensures.tree (omega (arith, cost, c.in_ok-low.ensures.paid, split-left-most (tree c.args.store.now c.children.result.0.index) (tree c.args.store.now c.children.result.1.index) (root_tree c.split_node.new.store c.in_ok-low.low) (root_tree c.split_node.new.store c.in_ok-low.high) c.children.ensures.balanced c.in_ok-low.ensures.split.low c.in_ok-low.ensures.split.high))

pub returns-then-count-middle-clause-grows : goal.returns-then-count-middle-clause-grows
returns-then-count-middle-clause-grows g t c =
    Grows-trans _ _ _ _ _ _ c.split_node.ensures.grows c.concat.ensures.grows

pub returns-then-count-middle-clause-split : goal.returns-then-count-middle-clause-split
returns-then-count-middle-clause-split g t c =
    let stays : tree c.split_node.new.store c.children.result.1.index ≡ tree c.args.store.now c.children.result.1.index = tree-grows c.args.store.now c.split_node.new.store c.args.pairs.now c.split_node.new.pairs c.split_node.ensures.grows c.children.result.1.index (omega (arith, c.children.ensures.right, c.requires.live)) in
    let joined : IsJoinedRoot (root_tree c.split_node.new.store c.in_ok-low.high) (Some (tree c.args.store.now c.children.result.1.index)) (root_tree c.concat.new.store c.in_ok-joined.joined) = subst (λ w. IsJoinedRoot (root_tree c.split_node.new.store c.in_ok-low.high) (Some w) (root_tree c.concat.new.store c.in_ok-joined.joined)) stays c.in_ok-joined.ensures.joined in
    rw (c.children.ensures.tree, (root_tree-grows c.split_node.new.store c.concat.new.store c.split_node.new.pairs c.concat.new.pairs c.concat.ensures.grows c.in_ok-low.low c.in_ok-low.ensures.live.0)) (split-left (tree c.args.store.now c.children.result.0.index) (tree c.args.store.now c.children.result.1.index) c.args.count _ _ _ (omega (arith, c.len-middle.ensures.len)) c.in_ok-low.ensures.split joined)

pub returns-then-count-middle-clause-paid : goal.returns-then-count-middle-clause-paid
returns-then-count-middle-clause-paid g t c =
    let stays : tree c.split_node.new.store c.children.result.1.index ≡ tree c.args.store.now c.children.result.1.index = tree-grows c.args.store.now c.split_node.new.store c.args.pairs.now c.split_node.new.pairs c.split_node.ensures.grows c.children.result.1.index (omega (arith, c.children.ensures.right, c.requires.live)) in
    let joined : IsJoinedRoot (root_tree c.split_node.new.store c.in_ok-low.high) (Some (tree c.args.store.now c.children.result.1.index)) (root_tree c.concat.new.store c.in_ok-joined.joined) = subst (λ w. IsJoinedRoot (root_tree c.split_node.new.store c.in_ok-low.high) (Some w) (root_tree c.concat.new.store c.in_ok-joined.joined)) stays c.in_ok-joined.ensures.joined in
    let cost : c.concat.new.pairs ≤ c.split_node.new.pairs + root_cost (root_tree c.split_node.new.store c.in_ok-low.high) (Some (tree c.args.store.now c.children.result.1.index)) = subst (λ w. c.concat.new.pairs ≤ c.split_node.new.pairs + root_cost (root_tree c.split_node.new.store c.in_ok-low.high) (Some w)) stays c.concat.ensures.cost in
    rw (c.children.ensures.tree, (root_tree-grows c.split_node.new.store c.concat.new.store c.split_node.new.pairs c.concat.new.pairs c.concat.ensures.grows c.in_ok-low.low c.in_ok-low.ensures.live.0)) (omega (arith, cost, c.in_ok-low.ensures.paid, split-left-paid (tree c.args.store.now c.children.result.0.index) (tree c.args.store.now c.children.result.1.index) (root_tree c.split_node.new.store c.in_ok-low.high) (root_tree c.concat.new.store c.in_ok-joined.joined) c.children.ensures.balanced c.in_ok-low.ensures.split.high joined))

pub returns-then-count-middle-clause-cost : goal.returns-then-count-middle-clause-cost
returns-then-count-middle-clause-cost g t c =
    let stays : tree c.split_node.new.store c.children.result.1.index ≡ tree c.args.store.now c.children.result.1.index = tree-grows c.args.store.now c.split_node.new.store c.args.pairs.now c.split_node.new.pairs c.split_node.ensures.grows c.children.result.1.index (omega (arith, c.children.ensures.right, c.requires.live)) in
    let cost : c.concat.new.pairs ≤ c.split_node.new.pairs + root_cost (root_tree c.split_node.new.store c.in_ok-low.high) (Some (tree c.args.store.now c.children.result.1.index)) = subst (λ w. c.concat.new.pairs ≤ c.split_node.new.pairs + root_cost (root_tree c.split_node.new.store c.in_ok-low.high) (Some w)) stays c.concat.ensures.cost in
    rw c.children.ensures.tree (omega (arith, cost, c.in_ok-low.ensures.paid, split-left-most (tree c.args.store.now c.children.result.0.index) (tree c.args.store.now c.children.result.1.index) (root_tree c.split_node.new.store c.in_ok-low.low) (root_tree c.split_node.new.store c.in_ok-low.high) c.children.ensures.balanced c.in_ok-low.ensures.split.low c.in_ok-low.ensures.split.high))

pub concat-requires-2-clause-short : goal.concat-requires-2-clause-short
concat-requires-2-clause-short g t c =
    let stays : tree c.split_node-2.new.store c.children.result.0.index ≡ tree c.args.store.now c.children.result.0.index = tree-grows c.args.store.now c.split_node-2.new.store c.args.pairs.now c.split_node-2.new.pairs c.split_node-2.ensures.grows c.children.result.0.index (omega (arith, c.children.ensures.left, c.requires.live)) in
    rw stays (omega (arith, split-leaves (tree c.args.store.now c.children.result.1.index) (c.args.count - c.len-middle.result) _ _ (omega (arith, c.len-len.ensures.len, ap leaves c.children.ensures.tree, c.requires.to)) c.in_ok-low-2.ensures.split, ap leaves c.children.ensures.tree, c.len-len.ensures.len, c.len-len.ensures.short))

pub returns-in_err-joined-2-clause-grows : goal.returns-in_err-joined-2-clause-grows
returns-in_err-joined-2-clause-grows g t c =
    Grows-trans _ _ _ _ _ _ c.split_node-2.ensures.grows c.concat-2.ensures.grows

pub returns-in_err-joined-2-clause-cost : goal.returns-in_err-joined-2-clause-cost
returns-in_err-joined-2-clause-cost g t c =
    let stays : tree c.split_node-2.new.store c.children.result.0.index ≡ tree c.args.store.now c.children.result.0.index = tree-grows c.args.store.now c.split_node-2.new.store c.args.pairs.now c.split_node-2.new.pairs c.split_node-2.ensures.grows c.children.result.0.index (omega (arith, c.children.ensures.left, c.requires.live)) in
    let cost : c.concat-2.new.pairs ≤ c.split_node-2.new.pairs + root_cost (Some (tree c.args.store.now c.children.result.0.index)) (root_tree c.split_node-2.new.store c.in_ok-low-2.low) = subst (λ w. c.concat-2.new.pairs ≤ c.split_node-2.new.pairs + root_cost (Some w) (root_tree c.split_node-2.new.store c.in_ok-low-2.low)) stays c.concat-2.ensures.cost in
    rw c.children.ensures.tree (omega (arith, cost, c.in_ok-low-2.ensures.paid, split-right-most (tree c.args.store.now c.children.result.0.index) (tree c.args.store.now c.children.result.1.index) (root_tree c.split_node-2.new.store c.in_ok-low-2.low) (root_tree c.split_node-2.new.store c.in_ok-low-2.high) c.children.ensures.balanced c.in_ok-low-2.ensures.split.low c.in_ok-low-2.ensures.split.high))

pub returns-clause-grows : goal.returns-clause-grows
returns-clause-grows g t c =
    Grows-trans _ _ _ _ _ _ c.split_node-2.ensures.grows c.concat-2.ensures.grows

pub returns-clause-split : goal.returns-clause-split
returns-clause-split g t c =
    let stays : tree c.split_node-2.new.store c.children.result.0.index ≡ tree c.args.store.now c.children.result.0.index = tree-grows c.args.store.now c.split_node-2.new.store c.args.pairs.now c.split_node-2.new.pairs c.split_node-2.ensures.grows c.children.result.0.index (omega (arith, c.children.ensures.left, c.requires.live)) in
    let joined : IsJoinedRoot (Some (tree c.args.store.now c.children.result.0.index)) (root_tree c.split_node-2.new.store c.in_ok-low-2.low) (root_tree c.concat-2.new.store c.in_ok-joined-2.joined) = subst (λ w. IsJoinedRoot (Some w) (root_tree c.split_node-2.new.store c.in_ok-low-2.low) (root_tree c.concat-2.new.store c.in_ok-joined-2.joined)) stays c.in_ok-joined-2.ensures.joined in
    let sub2 : IsSplit (tree c.args.store.now c.children.result.1.index) (c.args.count - leaves (tree c.args.store.now c.children.result.0.index)) (root_tree c.split_node-2.new.store c.in_ok-low-2.low) (root_tree c.split_node-2.new.store c.in_ok-low-2.high) = subst (λ n. IsSplit (tree c.args.store.now c.children.result.1.index) (c.args.count - n) (root_tree c.split_node-2.new.store c.in_ok-low-2.low) (root_tree c.split_node-2.new.store c.in_ok-low-2.high)) c.len-middle.ensures.len c.in_ok-low-2.ensures.split in
    rw (c.children.ensures.tree, (root_tree-grows c.split_node-2.new.store c.concat-2.new.store c.split_node-2.new.pairs c.concat-2.new.pairs c.concat-2.ensures.grows c.in_ok-low-2.high c.in_ok-low-2.ensures.live.1)) (split-right (tree c.args.store.now c.children.result.0.index) (tree c.args.store.now c.children.result.1.index) c.args.count _ _ _ (omega (arith, c.len-middle.ensures.len)) sub2 joined)

pub returns-clause-paid : goal.returns-clause-paid
returns-clause-paid g t c =
    let stays : tree c.split_node-2.new.store c.children.result.0.index ≡ tree c.args.store.now c.children.result.0.index = tree-grows c.args.store.now c.split_node-2.new.store c.args.pairs.now c.split_node-2.new.pairs c.split_node-2.ensures.grows c.children.result.0.index (omega (arith, c.children.ensures.left, c.requires.live)) in
    let joined : IsJoinedRoot (Some (tree c.args.store.now c.children.result.0.index)) (root_tree c.split_node-2.new.store c.in_ok-low-2.low) (root_tree c.concat-2.new.store c.in_ok-joined-2.joined) = subst (λ w. IsJoinedRoot (Some w) (root_tree c.split_node-2.new.store c.in_ok-low-2.low) (root_tree c.concat-2.new.store c.in_ok-joined-2.joined)) stays c.in_ok-joined-2.ensures.joined in
    let cost : c.concat-2.new.pairs ≤ c.split_node-2.new.pairs + root_cost (Some (tree c.args.store.now c.children.result.0.index)) (root_tree c.split_node-2.new.store c.in_ok-low-2.low) = subst (λ w. c.concat-2.new.pairs ≤ c.split_node-2.new.pairs + root_cost (Some w) (root_tree c.split_node-2.new.store c.in_ok-low-2.low)) stays c.concat-2.ensures.cost in
    rw (c.children.ensures.tree, (root_tree-grows c.split_node-2.new.store c.concat-2.new.store c.split_node-2.new.pairs c.concat-2.new.pairs c.concat-2.ensures.grows c.in_ok-low-2.high c.in_ok-low-2.ensures.live.1)) (omega (arith, cost, c.in_ok-low-2.ensures.paid, split-right-paid (tree c.args.store.now c.children.result.0.index) (tree c.args.store.now c.children.result.1.index) (root_tree c.split_node-2.new.store c.in_ok-low-2.low) (root_tree c.concat-2.new.store c.in_ok-joined-2.joined) c.children.ensures.balanced c.in_ok-low-2.ensures.split.low joined))

pub returns-clause-cost : goal.returns-clause-cost
returns-clause-cost g t c =
    let stays : tree c.split_node-2.new.store c.children.result.0.index ≡ tree c.args.store.now c.children.result.0.index = tree-grows c.args.store.now c.split_node-2.new.store c.args.pairs.now c.split_node-2.new.pairs c.split_node-2.ensures.grows c.children.result.0.index (omega (arith, c.children.ensures.left, c.requires.live)) in
    let cost : c.concat-2.new.pairs ≤ c.split_node-2.new.pairs + root_cost (Some (tree c.args.store.now c.children.result.0.index)) (root_tree c.split_node-2.new.store c.in_ok-low-2.low) = subst (λ w. c.concat-2.new.pairs ≤ c.split_node-2.new.pairs + root_cost (Some w) (root_tree c.split_node-2.new.store c.in_ok-low-2.low)) stays c.concat-2.ensures.cost in
    rw c.children.ensures.tree (omega (arith, cost, c.in_ok-low-2.ensures.paid, split-right-most (tree c.args.store.now c.children.result.0.index) (tree c.args.store.now c.children.result.1.index) (root_tree c.split_node-2.new.store c.in_ok-low-2.low) (root_tree c.split_node-2.new.store c.in_ok-low-2.high) c.children.ensures.balanced c.in_ok-low-2.ensures.split.low c.in_ok-low-2.ensures.split.high))
