-- Nodes that are put onto a trail and taken off.
use Rattle.std.proofs.Common.{◌≡◌, ℕ, ◌+◌, ◌-◌, ◌<◌, List, [], ◌∷◌, ◌++◌, length, sym, ap, subst, ◌∙◌, arith, append_assoc, append-nil}
use Rattle.slp_model.specs.declared.NodeId.{NodeId}
use Rattle.slp_model.specs.declared.Node.{Node}
use Rattle.slp_model.specs.Tree.{Tree, Leaf, Fork, text, leaves, height}
use Rattle.slp_model.specs.Nodes.{tree}
use Rattle.range_read.specs.Waiting.{IsTrail, trail_text}

-- a tree of two leaves or more is no byte
pub high-from-leaves : (t : Tree) → 1 < leaves t → 0 < height t
high-from-leaves (Leaf b) more = absurd (omega arith)
high-from-leaves (Fork l r) more = omega arith

pub trail_text-push : (nodes : List Node) (ids : List NodeId) (id : NodeId) → trail_text nodes (ids ++ id ∷ []) ≡ text (tree nodes id.index) ++ trail_text nodes ids
trail_text-push nodes [] id = sym (append-nil (text (tree nodes id.index)))
trail_text-push nodes (x ∷ xs) id =
    ap (λ l. l ++ text (tree nodes x.index)) (trail_text-push nodes xs id)
    ∙ append_assoc (text (tree nodes id.index)) (trail_text nodes xs) (text (tree nodes x.index))

pub IsTrail-push : (nodes : List Node) (levels : ℕ) (ids : List NodeId) (id : NodeId) → IsTrail nodes levels ids → id.index < length nodes
    → height (tree nodes id.index) + length ids < levels → IsTrail nodes levels (ids ++ id ∷ [])
IsTrail-push nodes levels [] id t live low = (live, omega arith, tt)
IsTrail-push nodes levels (x ∷ xs) id t live low = (t.0, t.1, IsTrail-push nodes (levels - 1) xs id t.2 live (omega arith))

IsTrail-pop : (nodes : List Node) (levels : ℕ) (ids : List NodeId) (id : NodeId) → IsTrail nodes levels (ids ++ id ∷ [])
    → IsTrail nodes levels ids × (id.index < length nodes) × (height (tree nodes id.index) + length ids < levels)
IsTrail-pop nodes levels [] id t = (tt, t.0, omega (arith, t.1))
IsTrail-pop nodes levels (x ∷ xs) id t = let h = IsTrail-pop nodes (levels - 1) xs id t.2 in ((t.0, t.1, h.0), h.1, omega (arith, h.2))

-- the same, where the list and the levels are named otherwise
pub IsTrail-taken : (nodes : List Node) (levels rest_levels : ℕ) (all ids : List NodeId) (id : NodeId) → all ≡ ids ++ id ∷ [] → rest_levels ≡ levels → IsTrail nodes levels all
    → IsTrail nodes rest_levels ids × (id.index < length nodes) × (height (tree nodes id.index) + length ids < rest_levels)
IsTrail-taken nodes levels rest_levels all ids id split same t =
    IsTrail-pop nodes rest_levels ids id (subst (λ n. IsTrail nodes n (ids ++ id ∷ [])) (sym same) (subst (λ l. IsTrail nodes levels l) split t))
