-- Entries of a store that grows.
use Rattle.std.proofs.Common.{◌≡◌, ℕ, ◌<◌, List, [], ◌∷◌, ◌++◌, length, get_or, slice_get, Some, suc, zero, refl, ap, sym, ◌∙◌, arith, All, length-append, subst}
use Rattle.std.proofs.lemmas.List.{map-append}
use Rattle.std.proofs.lemmas.List.Elements.{All-head, All-tail}
use Rattle.std.proofs.Common.{inl, inr}
use Rattle.std.proofs.lemmas.Bool.{cases_lt}
use Rattle.std.proofs.lemmas.List.{get_or_push, get_or_append_left}
use Rattle.std.proofs.lemmas.Option.{slice_get_within, get_or_from_slice_get}
use Rattle.slp_model.specs.declared.NodeId.{NodeId}
use Rattle.slp_model.specs.declared.Node.{Node}
use Rattle.slp_model.specs.Tree.{Tree, Leaf}
use Rattle.slp_model.specs.Nodes.{tree, Grows, AreLiveIds}
use Rattle.slp_model.proofs.NodesLemmas.{tree-grows, Grows-length, Grows-none}
use Rattle.slp_rebalance.specs.Entries.{entry_trees}

grown : (old new : List Node) (p q : ℕ) → Grows old new p q → (ids : List NodeId) → All (λ id. id.index < length old) ids → entry_trees new ids ≡ entry_trees old ids
grown old new p q g [] h = refl
grown old new p q g (x ∷ xs) h =
    let a = tree-grows old new p q g x.index (All-head (λ id. id.index < length old) x xs h) in
    let b = grown old new p q g xs (All-tail (λ id. id.index < length old) x xs h) in
    cc

-- nothing is added to the store
pub none_grows : (ns : List Node) (p : ℕ) → Grows ns ns p p
none_grows ns p = Grows-none ns p p (omega arith)

-- the entries keep their trees
pub entries-grow : (old new : List Node) (p q : ℕ) → Grows old new p q → (ids : List NodeId) → AreLiveIds old ids → entry_trees new ids ≡ entry_trees old ids
entries-grow old new p q g ids h = grown old new p q g ids h.live

-- and stay live
pub entries-stay : (old new : List Node) (p q : ℕ) → Grows old new p q → (ids : List NodeId) → AreLiveIds old ids → AreLiveIds new ids
entries-stay old new p q g ids h = record { live = λ k d m. omega (arith, h.live k d m, Grows-length old new p q g) }

-- one more entry
pub entries-push : (old new : List Node) (p q : ℕ) → Grows old new p q → (ids : List NodeId) → AreLiveIds old ids → (id : NodeId) (all : List NodeId) → all ≡ ids ++ id ∷ [] → (t : Tree) → tree new id.index ≡ t
    → entry_trees new all ≡ entry_trees old ids ++ t ∷ []
entries-push old new p q g ids h id all e t is =
    ap (λ xs. entry_trees new xs) e ∙ (map-append (λ (i : NodeId). tree new i.index) ids (id ∷ []) ∙ (ap (λ ts. ts ++ tree new id.index ∷ []) (entries-grow old new p q g ids h) ∙ ap (λ u. entry_trees old ids ++ u ∷ []) is))

-- the tree at an index
pub entry-at : (ns : List Node) (ids : List NodeId) (i : ℕ) (id : NodeId) → slice_get ids i ≡ Some id → get_or (entry_trees ns ids) i (Leaf 0) ≡ tree ns id.index
entry-at ns [] i id h = cc
entry-at ns (x ∷ xs) zero id h = let e : x ≡ id = cc in ap (λ (y : NodeId). tree ns y.index) e
entry-at ns (x ∷ xs) (suc i) id h = entry-at ns xs i id h

-- an entry is a node
pub entry-live : (ns : List Node) (ids : List NodeId) (i : ℕ) (id : NodeId) → AreLiveIds ns ids → slice_get ids i ≡ Some id → id.index < length ns
entry-live ns ids i id h e = subst (λ (x : NodeId). x.index < length ns) (get_or_from_slice_get ids i id id e) (h.live i id (slice_get_within ids i id e))

-- a list with one more entry
pub entries-more : (ns : List Node) (ids all : List NodeId) (id : NodeId) → AreLiveIds ns ids → id.index < length ns → all ≡ ids ++ id ∷ [] → AreLiveIds ns all
entries-more ns ids all id h lt e = record { live = subst (λ xs. All (λ (x : NodeId). x.index < length ns) xs) (sym e) more }
  where
    more : All (λ (x : NodeId). x.index < length ns) (ids ++ id ∷ [])
    more k d m = elim (cases_lt k (length ids)) [
      | inl before ↦ subst (λ (x : NodeId). x.index < length ns) (sym (get_or_append_left ids (id ∷ []) d k before)) (h.live k d before)
      | inr here ↦ subst (λ (x : NodeId). x.index < length ns) (sym (get_or_push ids id d k (omega (arith, length-append ids (id ∷ []))))) lt
    ]
