-- An order of two bytes, two pairs of these and a pair of the pairs that isn't that of their ids.
use Rattle.std.proofs.Common.{zero, suc, ◌≡◌, ℕ, ◌<◌, ◌≤◌, List, [], ◌∷◌, ◌++◌, take, length, length-append, slice_index_or, slice_get, Some, Contains, refl, sym, ap, subst, ◌∙◌, arith}
use Rattle.slp_model.specs.declared.NodeId.{NodeId}
use Rattle.slp_model.specs.declared.Node.{Node}
use Rattle.slp_model.specs.declared.Node.TheVariants.{Byte, Pair}
use Rattle.slp_model.specs.Nodes.{IsSound}
use Rattle.table_grow.specs.Schedule.{IsBefore, IsSchedule}

abbrev at : ℕ → NodeId
at n = record { index = n }

abbrev order : List NodeId
order = at 1 ∷ at 0 ∷ at 3 ∷ at 2 ∷ at 4 ∷ []

-- where each of them stands in the order
abbrev index : ℕ → ℕ
index zero = 1
index (suc zero) = 0
index (suc (suc zero)) = 3
index (suc (suc (suc zero))) = 2
index (suc (suc (suc (suc n)))) = 4

apart : (x : ℕ) (l r : NodeId) → Some (Byte x) ≡ Some (Pair l r) → ⊥
apart x l r h = cc

same-left : (l r m s : NodeId) → Some (Pair l r) ≡ Some (Pair m s) → l ≡ m
same-left l r m s h = cc

same-right : (l r m s : NodeId) → Some (Pair l r) ≡ Some (Pair m s) → r ≡ s
same-right l r m s h = cc

-- ---- the places
placed : (i : ℕ) (d : NodeId) → i < 5 → index (slice_index_or order i d).index ≡ i
placed zero d lt = refl
placed (suc zero) d lt = refl
placed (suc (suc zero)) d lt = refl
placed (suc (suc (suc zero))) d lt = refl
placed (suc (suc (suc (suc zero)))) d lt = refl
placed (suc (suc (suc (suc (suc i))))) d lt = absurd (omega (arith, lt))

once : (i j : ℕ) (d : NodeId) → i < j → j < 5 → (slice_index_or order i d).index ≡ (slice_index_or order j d).index → ⊥
once i j d lt most e =
    let same : i ≡ j = sym (placed i d (omega (arith, lt, most))) ∙ (ap index e ∙ placed j d most) in
    omega (arith, lt, same)

in-two : (c : NodeId) (n : ℕ) → c.index ≡ n → n < 2 → Contains (at 1 ∷ at 0 ∷ []) c
in-two c zero e lt = (1, omega arith, sym (ap at e))
in-two c (suc zero) e lt = (0, omega arith, sym (ap at e))
in-two c (suc (suc n)) e lt = absurd (omega (arith, lt))

in-three : (c : NodeId) (n : ℕ) → c.index ≡ n → n < 2 → Contains (at 1 ∷ at 0 ∷ at 3 ∷ []) c
in-three c zero e lt = (1, omega arith, sym (ap at e))
in-three c (suc zero) e lt = (0, omega arith, sym (ap at e))
in-three c (suc (suc n)) e lt = absurd (omega (arith, lt))

in-four : (c : NodeId) (n : ℕ) → c.index ≡ n → n < 4 → Contains (at 1 ∷ at 0 ∷ at 3 ∷ at 2 ∷ []) c
in-four c zero e lt = (1, omega arith, sym (ap at e))
in-four c (suc zero) e lt = (0, omega arith, sym (ap at e))
in-four c (suc (suc zero)) e lt = (3, omega arith, sym (ap at e))
in-four c (suc (suc (suc zero))) e lt = (2, omega arith, sym (ap at e))
in-four c (suc (suc (suc (suc n)))) e lt = absurd (omega (arith, lt))

in-all : (c : NodeId) (n : ℕ) → c.index ≡ n → n < 5 → Contains order c
in-all c zero e lt = (1, omega arith, sym (ap at e))
in-all c (suc zero) e lt = (0, omega arith, sym (ap at e))
in-all c (suc (suc zero)) e lt = (3, omega arith, sym (ap at e))
in-all c (suc (suc (suc zero))) e lt = (2, omega arith, sym (ap at e))
in-all c (suc (suc (suc (suc zero)))) e lt = (4, omega arith, sym (ap at e))
in-all c (suc (suc (suc (suc (suc n))))) e lt = absurd (omega (arith, lt))

-- ---- the order
module _ (nodes : List Node) (y : ℕ) (left right : NodeId) (five : length nodes ≡ 5) (sound : IsSound nodes) (byte : slice_get nodes 1 ≡ Some (Byte y)) (pair : slice_get nodes 3 ≡ Some (Pair left right)) (low : left.index < 2) (also : right.index < 2) where
  new : (k : ℕ) (d : NodeId) → k < 5 → (0 ≤ (slice_index_or order k d).index) × ((slice_index_or order k d).index < length nodes)
  new zero d lt = (omega arith, omega (arith, five))
  new (suc zero) d lt = (omega arith, omega (arith, five))
  new (suc (suc zero)) d lt = (omega arith, omega (arith, five))
  new (suc (suc (suc zero))) d lt = (omega arith, omega (arith, five))
  new (suc (suc (suc (suc zero)))) d lt = (omega arith, omega (arith, five))
  new (suc (suc (suc (suc (suc k))))) d lt = absurd (omega (arith, lt))

  -- the children of the pair that is the node at i
  below : (i : ℕ) (id l r : NodeId) → at i ≡ id → slice_get nodes id.index ≡ Some (Pair l r) → (l.index < i) × (r.index < i)
  below i id l r is h = sound.children i (Pair l r) (subst (λ (n : NodeId). slice_get nodes n.index ≡ Some (Pair l r)) (sym is) h)

  children : (before after : List NodeId) (id l r : NodeId) → order ≡ before ++ id ∷ after → slice_get nodes id.index ≡ Some (Pair l r) → IsBefore 0 before l × IsBefore 0 before r
  children [] after id l r e h =
      let is : at 1 ≡ id = ap (λ (ids : List NodeId). slice_index_or ids 0 id) e in
      absurd (apart y l r (sym byte ∙ subst (λ (n : NodeId). slice_get nodes n.index ≡ Some (Pair l r)) (sym is) h))
  children (b ∷ []) after id l r e h =
      let low = below 0 id l r (ap (λ (ids : List NodeId). slice_index_or ids 1 id) e) h in
      absurd (omega (arith, low.0))
  children (b ∷ c ∷ []) after id l r e h =
      let is : at 3 ≡ id = ap (λ (ids : List NodeId). slice_index_or ids 2 id) e in
      let same : Some (Pair left right) ≡ Some (Pair l r) = sym pair ∙ subst (λ (n : NodeId). slice_get nodes n.index ≡ Some (Pair l r)) (sym is) h in
      let prefix : at 1 ∷ at 0 ∷ [] ≡ b ∷ c ∷ [] = ap (λ (ids : List NodeId). take 2 ids) e in (
        λ ge. subst (λ (ids : List NodeId). Contains ids l) prefix (in-two l l.index refl (subst (λ (n : NodeId). n.index < 2) (same-left left right l r same) low)),
        λ ge. subst (λ (ids : List NodeId). Contains ids r) prefix (in-two r r.index refl (subst (λ (n : NodeId). n.index < 2) (same-right left right l r same) also)),
      )
  children (b ∷ c ∷ d ∷ []) after id l r e h =
      let low = below 2 id l r (ap (λ (ids : List NodeId). slice_index_or ids 3 id) e) h in
      let prefix : at 1 ∷ at 0 ∷ at 3 ∷ [] ≡ b ∷ c ∷ d ∷ [] = ap (λ (ids : List NodeId). take 3 ids) e in
      (λ ge. subst (λ (ids : List NodeId). Contains ids l) prefix (in-three l l.index refl low.0), λ ge. subst (λ (ids : List NodeId). Contains ids r) prefix (in-three r r.index refl low.1))
  children (b ∷ c ∷ d ∷ f ∷ []) after id l r e h =
      let low = below 4 id l r (ap (λ (ids : List NodeId). slice_index_or ids 4 id) e) h in
      let prefix : at 1 ∷ at 0 ∷ at 3 ∷ at 2 ∷ [] ≡ b ∷ c ∷ d ∷ f ∷ [] = ap (λ (ids : List NodeId). take 4 ids) e in
      (λ ge. subst (λ (ids : List NodeId). Contains ids l) prefix (in-four l l.index refl low.0), λ ge. subst (λ (ids : List NodeId). Contains ids r) prefix (in-four r r.index refl low.1))
  children (b ∷ c ∷ d ∷ f ∷ g ∷ before) after id l r e h = absurd (omega (arith, ap length e, length-append before (id ∷ after)))

  pub crossed-order : IsSchedule nodes 0 order
  crossed-order = record {
    new = new;
    all = λ id ge lt. in-all id id.index refl (omega (arith, lt, five));
    once = once;
    children = children;
  }
