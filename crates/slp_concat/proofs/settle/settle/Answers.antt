use Rattle.std.proofs.Common.{arith, ◌≡◌, ◌<◌, ℕ, List, length, ◌∙◌}
use Rattle.slp_model.specs.declared.Node.{Node}
use Rattle.slp_model.specs.Nodes.{tree, Grows}
use Rattle.slp_model.proofs.NodesLemmas.{tree-grows, Grows-trans, Grows-length}
use Rattle.slp_concat.specs.declared.settle.Half.{Half}
use Rattle.slp_concat.specs.declared.settle.Half.TheVariants.{Made, Two}
use Rattle.slp_concat.specs.Halves.{half_tree, IsHalf}
use Rattle.slp_concat.proofs.settle.settle.Goals as goal

half_stays : (old new : List Node) (p q : ℕ) → Grows old new p q → (h : Half) → IsHalf old h → half_tree new h ≡ half_tree old h
half_stays old new p q g (Made a) i = tree-grows old new p q g a.index i
half_stays old new p q g (Two a b) i = rw (tree-grows old new p q g a.index i.0, tree-grows old new p q g b.index i.1)

half_kept : (old new : List Node) (p q : ℕ) → Grows old new p q → (h : Half) → IsHalf old h → IsHalf new h
half_kept old new p q g (Made a) i = omega (arith, i, Grows-length old new p q g)
half_kept old new p q g (Two a b) i =
    let longer = Grows-length old new p q g in
    (omega (arith, i.0, longer), omega (arith, i.1, longer), rw (tree-grows old new p q g a.index i.0, tree-grows old new p q g b.index i.1) i.2)

-- the trees of the two halves once both are made
both_made : (old mid new : List Node) (p q r a b : ℕ) (s t : Half) → Grows old mid p q → Grows mid new q r → a < length mid → tree mid a ≡ half_tree old s → IsHalf old t → tree new b ≡ half_tree mid t → (tree new a ≡ half_tree old s) × (tree new b ≡ half_tree old t)
both_made old mid new p q r a b s t g h live first half second = (tree-grows mid new q r h a live ∙ first, second ∙ half_stays old mid p q g t half)

pub node_of-requires-2-clause-half : goal.node_of-requires-2-clause-half
node_of-requires-2-clause-half g c = half_kept _ _ _ _ c.node_of.ensures.grows c.rotated-first.result.1 c.rotated-first.ensures.right

pub node_of-requires-2-clause-short : goal.node_of-requires-2-clause-short
node_of-requires-2-clause-short g c = rw (half_stays _ _ _ _ c.node_of.ensures.grows c.rotated-first.result.1 c.rotated-first.ensures.right) (omega (arith, c.rotated-first.ensures.leaves, c.requires.short))

pub returns-in_err-right-clause-grows : goal.returns-in_err-right-clause-grows
returns-in_err-right-clause-grows g c = Grows-trans _ _ _ _ _ _ c.node_of.ensures.grows c.node_of-2.ensures.grows

pub pair-requires : goal.pair-requires
pair-requires g c =
    let m = both_made _ _ _ _ _ _ c.in_ok-left.left.index c.in_ok-right.right.index c.rotated-first.result.0 c.rotated-first.result.1 c.node_of.ensures.grows c.node_of-2.ensures.grows c.in_ok-left.ensures.live c.in_ok-left.ensures.tree c.rotated-first.ensures.right c.in_ok-right.ensures.tree in
    record {
      left = omega (arith, c.in_ok-left.ensures.live, Grows-length _ _ _ _ c.node_of-2.ensures.grows);
      right = c.in_ok-right.ensures.live;
      near = rw (m.0, m.1) c.rotated-first.ensures.near;
      short = rw (m.0, m.1) (omega (arith, c.rotated-first.ensures.leaves, c.requires.short));
    }

pub returns-clause-grows : goal.returns-clause-grows
returns-clause-grows g c = Grows-trans _ _ _ _ _ _ (Grows-trans _ _ _ _ _ _ c.node_of.ensures.grows c.node_of-2.ensures.grows) c.pair.ensures.grows

pub returns-clause-settled_right : goal.returns-clause-settled_right
returns-clause-settled_right g c h =
    let m = both_made _ _ _ _ _ _ c.in_ok-left.left.index c.in_ok-right.right.index c.rotated-first.result.0 c.rotated-first.result.1 c.node_of.ensures.grows c.node_of-2.ensures.grows c.in_ok-left.ensures.live c.in_ok-left.ensures.tree c.rotated-first.ensures.right c.in_ok-right.ensures.tree in
    rw (← c.rotated-first.ensures.settled_right h, ← m.0, ← m.1) c.pair.ensures.tree

pub returns-clause-settled_left : goal.returns-clause-settled_left
returns-clause-settled_left g c h =
    let m = both_made _ _ _ _ _ _ c.in_ok-left.left.index c.in_ok-right.right.index c.rotated-first.result.0 c.rotated-first.result.1 c.node_of.ensures.grows c.node_of-2.ensures.grows c.in_ok-left.ensures.live c.in_ok-left.ensures.tree c.rotated-first.ensures.right c.in_ok-right.ensures.tree in
    rw (← c.rotated-first.ensures.settled_left h, ← m.0, ← m.1) c.pair.ensures.tree
