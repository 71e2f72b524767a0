-- The blocks of a loader, over a store that grows.
use Rattle.std.proofs.Common.{rules, ◌≡◌, ℕ, ◌+◌, ◌<◌, ◌≢◌, List, [], ◌∷◌, ◌++◌, map, reverse, length, refl, ap, sym, subst, ◌∙◌, arith, All, Option, Some, None, length-append}
use Rattle.std.proofs.lemmas.List.{map-append, reverse-append, get_or_append_left}
use Rattle.std.proofs.lemmas.List.Elements.{All-head, All-tail}
use Rattle.slp_model.specs.declared.NodeId.{NodeId}
use Rattle.slp_model.specs.declared.Node.{Node}
use Rattle.slp_model.specs.Tree.{Tree, Fork, text, leaves, height, root_text, root_leaves}
use Rattle.slp_model.specs.Nodes.{tree, Grows, AreLiveIds}
use Rattle.slp_model.specs.Join.{IsJoinedRoot}
use Rattle.slp_model.proofs.TreeLemmas.{length-text, length-root_text}
use Rattle.slp_model.proofs.NodesLemmas.{tree-grows, Grows-length}
use Rattle.node_store.specs.Blocks.{IsFull}
use Rattle.pair_loader.specs.Pending.{AreRising, stack_of, stack_text, IsPending, IsLoader, fed, pending_count}

pub stack_of-push : (ns : List Node) (xs : List NodeId) (x : NodeId) → stack_of ns (xs ++ x ∷ []) ≡ tree ns x.index ∷ stack_of ns xs
stack_of-push ns xs x = simp (map-append, reverse-append)

trees_of-grows : (old new : List Node) (p q : ℕ) → Grows old new p q → (xs : List NodeId) → All (λ id. id.index < length old) xs → map (λ id. tree new id.index) xs ≡ map (λ id. tree old id.index) xs
trees_of-grows old new p q g [] h = refl
trees_of-grows old new p q g (x ∷ xs) h =
    let a = tree-grows old new p q g x.index (All-head (λ id. id.index < length old) x xs h) in
    let b = trees_of-grows old new p q g xs (All-tail (λ id. id.index < length old) x xs h) in
    cc

pub stack_of-grows : (old new : List Node) (p q : ℕ) → Grows old new p q → (xs : List NodeId) → AreLiveIds old xs → stack_of new xs ≡ stack_of old xs
stack_of-grows old new p q g xs h = ap reverse (trees_of-grows old new p q g xs h.live)

pub live-grows : (old new : List Node) (p q : ℕ) → Grows old new p q → (xs : List NodeId) → AreLiveIds old xs → AreLiveIds new xs
live-grows old new p q g xs h = record { live = λ k d m. omega (arith, h.live k d m, Grows-length old new p q g) }

pub live-prefix : (ns : List Node) (xs ys : List NodeId) → AreLiveIds ns (xs ++ ys) → AreLiveIds ns xs
live-prefix ns xs ys h = record {
  live = λ k d m.
      let longer : k < length (xs ++ ys) = omega (arith, length-append xs ys) in
      subst (λ (x : NodeId). x.index < length ns) (get_or_append_left xs ys d k m) (h.live k d longer);
}

pub pending-grows : (old new : List Node) (p q : ℕ) → Grows old new p q → (blocks : List NodeId) → IsPending old blocks → IsPending new blocks
pending-grows old new p q g blocks h =
    let stays : stack_of new blocks ≡ stack_of old blocks = stack_of-grows old new p q g blocks h.live in
    record {
      live = live-grows old new p q g blocks h.live;
      rising = subst (λ w. AreRising 0 w) (sym stays) h.rising;
      short = rw stays h.short;
    }

pub loader-grows : (old new : List Node) (p q : ℕ) (loader : Option (List NodeId)) → Grows old new p q → IsLoader old loader → IsLoader new loader × (fed new loader ≡ fed old loader)
loader-grows old new p q None g h = (tt, refl)
loader-grows old new p q (Some blocks) g h = (pending-grows old new p q g blocks h, ap stack_text (stack_of-grows old new p q g blocks h.live))

-- a loader that was fed no bytes
pub new-loader : (ns : List Node) (loader : Option (List NodeId)) → loader ≡ Some [] → IsLoader ns loader × (fed ns loader ≡ []) × (pending_count loader ≡ 0)
new-loader ns loader is =
    let none : IsPending ns [] = record { live = record { live = search rules }; rising = tt; short = omega arith } in
    (subst (IsLoader ns) (sym is) none, ap (fed ns) is, ap pending_count is)

-- the blocks without the last one
pub record IsPopped (ns : List Node) (blocks prefix : List NodeId) (top : NodeId) : Type 0 where
  pub stack : stack_of ns blocks ≡ tree ns top.index ∷ stack_of ns prefix
  pub live : AreLiveIds ns prefix
  pub long : length (stack_text (stack_of ns blocks)) ≡ length (stack_text (stack_of ns prefix)) + leaves (tree ns top.index)

pub popped : (ns : List Node) (blocks prefix : List NodeId) (top : NodeId) → blocks ≡ prefix ++ top ∷ [] → AreLiveIds ns blocks → IsPopped ns blocks prefix top
popped ns blocks prefix top split h =
    let e : stack_of ns blocks ≡ tree ns top.index ∷ stack_of ns prefix = ap (λ xs. stack_of ns xs) split ∙ stack_of-push ns prefix top in
    record {
      stack = e;
      live = live-prefix ns prefix (top ∷ []) (subst (λ xs. AreLiveIds ns xs) split h);
      long = ap (λ w. length (stack_text w)) e ∙ omega (arith, length-append (stack_text (stack_of ns prefix)) (text (tree ns top.index)), length-text (tree ns top.index));
    }

-- two equal full trees make one that is higher
pub pair-rising : (rest : List Tree) (a b : Tree) → AreRising (height b) (a ∷ rest) → IsFull b → height a ≡ height b → IsFull (Fork a b) × AreRising (height (Fork a b)) rest
pair-rising rest a b r f same =
    let e : height a + 1 ≡ height (Fork a b) = omega (arith, same) in
    ((same, r.1, f), subst (λ h. AreRising h rest) e r.2)

-- a lower one stands beside them
pub push-rising : (rest : List Tree) (a b : Tree) → AreRising (height b) (a ∷ rest) → IsFull b → height a ≢ height b → AreRising 0 (b ∷ (a ∷ rest))
push-rising rest a b r f other = (omega arith, f, (omega (arith, r.0, other), r.1, r.2))

-- a step that pays nothing, seen from any count
pub Grows-weaker : (old new : List Node) (p : ℕ) → Grows old new 0 0 → Grows old new p p
Grows-weaker old new p g = record { more = g.more; added = g.added; paid = omega (arith, g.paid) }

-- the leaves of a join of roots
pub root_leaves-joined : (a b t : Option Tree) → IsJoinedRoot a b t → root_leaves t ≡ root_leaves a + root_leaves b
root_leaves-joined a b t h =
    let e : length (root_text t) ≡ length (root_text a ++ root_text b) = ap length h.joined in
    omega (arith, e, length-root_text a, length-root_text b, length-root_text t, length-append (root_text a) (root_text b))
