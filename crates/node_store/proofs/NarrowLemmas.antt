-- Narrow nodes are equal if their wide nodes are.
use Rattle.std.proofs.Common.{rules, ◌≡◌, ◌≢◌, ℕ, zero, suc, ◌<◌, inl, inr, eq-eqb, ◌||◌, Bool, true, false, true≢false, List, [], ◌∷◌, ◌++◌, length, map, get_or, slice_get, Some, refl, sym, ap, subst, ◌∙◌, if◌then◌else◌}
use Rattle.std.specs.List.{IsDistinct, list_any}
use Rattle.std.proofs.lemmas.Bool.{cases_eq, ne_eqb}
use Rattle.std.proofs.lemmas.List.{map-append}
use Rattle.std.proofs.lemmas.Map.Keys.{IsDistinct-push}
use Rattle.std.proofs.lemmas.Option.{slice_get-get_or, get_or_from_slice_get}
use Rattle.slp_model.specs.declared.Node.{Node}
use Rattle.slp_model.specs.declared.NodeId.{NodeId}
use Rattle.slp_model.specs.declared.Node.TheVariants.{Byte, Pair}
use Rattle.slp_model.specs.contracts.NodePartialEq.TheImpl as node
use Rattle.slp_model.specs.Nodes.{IsBelow}
use Rattle.node_store.specs.declared.narrow.Narrow.{Narrow}
use Rattle.node_store.specs.contracts.narrow.NarrowPartialEq.TheImpl.{ghosts}
use Rattle.node_store.specs.Narrow.{IsPair, byte_mark, wide, AreUnique}
use Rattle.node_store.specs.SearchTree.{IsAbsent}
use Rattle.node_store.specs.Stored.{IsNew}
use Rattle.slp_model.specs.contracts.NodeEq.TheImpl.Laws.{laws-law}

-- a narrow node is a byte or a pair
wide-byte : (n : Narrow) → n.right ≡ byte_mark → wide n ≡ Byte n.left
wide-byte n is = ap (λ b. if b then Byte n.left else Pair (record { index = n.left }) (record { index = n.right })) (eq-eqb n.right byte_mark is)

wide-pair : (n : Narrow) → IsPair n → wide n ≡ Pair (record { index = n.left }) (record { index = n.right })
wide-pair n is = ap (λ b. if b then Byte n.left else Pair (record { index = n.left }) (record { index = n.right })) (ne_eqb n.right byte_mark is)

pub below-pair : (k : ℕ) (n : Narrow) → IsBelow k (wide n) → IsPair n → (n.left < k) × (n.right < k)
below-pair k n below is = subst (IsBelow k) (wide-pair n is) below

node-same : (x y : Node) → node.ghosts.eq x y ≡ true → x ≡ y
node-same x y e = search rules

narrow-self : (x : Narrow) → ghosts.eq x x ≡ true
narrow-self x = search rules

narrow-same : (x y : Narrow) → ghosts.eq x y ≡ true → x ≡ y
narrow-same x y e = search rules

self-same : (x : Node) → node.ghosts.eq x x ≡ true
self-same x = search rules

-- a node that is equal to none of them
none-equal : (ns : List Node) (n : Node) → IsNew ns n → list_any (node.ghosts.eq n) ns ≡ false
none-equal [] n new = refl
none-equal (x ∷ ns) n new = by (none-equal ns n (λ i. new (suc i))) (node.ghosts.eq n x) refl
  where
    by : list_any (node.ghosts.eq n) ns ≡ false → (b : Bool) → node.ghosts.eq n x ≡ b → list_any (node.ghosts.eq n) (x ∷ ns) ≡ false
    by rest true e = absurd (new 0 (ap Some (sym (node-same n x e))))
    by rest false e = ap (λ b. b || list_any (node.ghosts.eq n) ns) e ∙ rest

-- one more that wasn't there
pub unique-push : (ns : List Node) (n : Node) → AreUnique ns → IsNew ns n → AreUnique (ns ++ n ∷ [])
unique-push ns n unique new = IsDistinct-push laws-law ns n unique (none-equal ns n new)

wide-one : (x y : Narrow) → wide x ≡ wide y → x ≡ y
wide-one x y e = elim (cases_eq x.right byte_mark) [
  | inl first ↦ elim (cases_eq y.right byte_mark) [
    | inl second ↦
        let bytes : Byte x.left ≡ Byte y.left = sym (wide-byte x first) ∙ (e ∙ wide-byte y second) in
        let left : x.left ≡ y.left = cc in
        same left (first ∙ sym second)
    | inr second ↦ (let clash : Byte x.left ≡ Pair (record { index = y.left }) (record { index = y.right }) = sym (wide-byte x first) ∙ (e ∙ wide-pair y second) in cc)
  ]
  | inr first ↦ elim (cases_eq y.right byte_mark) [
    | inl second ↦ (let clash : Byte y.left ≡ Pair (record { index = x.left }) (record { index = x.right }) = sym (wide-byte y second) ∙ (sym e ∙ wide-pair x first) in cc)
    | inr second ↦
        let pairs : Pair (record { index = x.left }) (record { index = x.right }) ≡ Pair (record { index = y.left }) (record { index = y.right }) = sym (wide-pair x first) ∙ (e ∙ wide-pair y second) in
        let lefts : ◌≡◌ {A = NodeId} (record { index = x.left }) (record { index = y.left }) = cc in
        let rights : ◌≡◌ {A = NodeId} (record { index = x.right }) (record { index = y.right }) = cc in
        same (ap (λ (k : NodeId). k.index) lefts) (ap (λ (k : NodeId). k.index) rights)
  ]
]
  where
    same : x.left ≡ y.left → x.right ≡ y.right → x ≡ y
    same left right = λ i. record { left = left i; right = right i }

pub absent-wide : (ns : List Narrow) (n : Narrow) → IsAbsent ns n → IsNew (map wide ns) (wide n)
absent-wide [] n absent i h = cc
absent-wide (x ∷ ns) n absent zero h = let e : wide x ≡ wide n = cc in absent 0 (ap Some (wide-one x n e))
absent-wide (x ∷ ns) n absent (suc i) h = absent-wide ns n (λ j. absent (suc j)) i h

-- one more narrow node is one more node
pub widened : (old new : List Narrow) (n : Narrow) (w : Node) → wide n ≡ w → new ≡ old ++ n ∷ [] → IsAbsent old n → (map wide new ≡ map wide old ++ w ∷ []) × IsNew (map wide old) w
widened old new n w is made absent = (ap (map wide) made ∙ (map-append wide old (n ∷ []) ∙ ap (λ x. map wide old ++ x ∷ []) is), subst (IsNew (map wide old)) is (absent-wide old n absent))

pub unique-none : AreUnique []
unfolding IsDistinct
unique-none = tt

-- a comparison with the node at an index
pub differs-at : (ns : List Narrow) (n d : Narrow) (i : ℕ) → ghosts.eq (get_or ns i d) n ≡ false → slice_get ns i ≢ Some n
differs-at ns n d i e h = true≢false (sym (ap (λ x. ghosts.eq x n) (get_or_from_slice_get ns i n d h) ∙ narrow-self n) ∙ e)

pub equals-at : (ns : List Narrow) (n : Narrow) (i : ℕ) → i < length ns → ghosts.eq (get_or ns i n) n ≡ true → slice_get ns i ≡ Some n
equals-at ns n i within e = slice_get-get_or ns i n within ∙ ap Some (narrow-same (get_or ns i n) n e)
