-- The new nodes by height, and what the work on one height gives the next.
use Rattle.std.proofs.Common.{◌≡◌, ◌≢◌, inl, inr, ℕ, ◌+◌, ◌<◌, ◌≤◌, ap, sym, subst, ◌∙◌, arith, List, [], ◌∷◌, ◌++◌, length, map, set, get_or, max, IsSome, Contains, replicate}
use Rattle.std.specs.Prelude.{slice_set, slice_index_or}
use Rattle.std.proofs.Math.Nat.{le-max_left, le-max_right}
use Rattle.std.proofs.lemmas.Bool.{cases_lt, cases_eq}
use Rattle.std.proofs.lemmas.List.{get_or-set_same, get_or-set_other, length-set, get_or-replicate, length-replicate}
use Rattle.std.proofs.lemmas.List.Elements.{All-push, Contains-push, Contains-append_left}
use Rattle.std.proofs.lemmas.List.Quantifiers.{all_pairs_push}
use Rattle.marker_dfa.proofs.Lists.{map_set, get_map, length_map}
use Rattle.slp_model.specs.declared.NodeId.{NodeId}
use Rattle.slp_model.specs.declared.Node.{Node}
use Rattle.slp_model.specs.Tree.{height}
use Rattle.slp_model.specs.Nodes.{tree}
use Rattle.slp_model.specs.declared.Node.TheVariants.{Pair}
use Rattle.slp_model.specs.Nodes.{IsSound}
use Rattle.slp_model.proofs.NodesLemmas.{node-at}
use Rattle.table_grow.specs.Filling.{AreDue, Assigns, Filling, IsFilledTo, IsFilledUnder, assigned}
use Rattle.table_grow.proofs.Growing.{same-nodes}
use Rattle.table_grow.specs.Layers.{IsLayer, IsOfHeight, AreLayers}

-- ---- one more node
below : (i k : ℕ) → i < k + 1 → i ≢ k → i < k
below i k h other = elim (cases_lt i k) [
  | inl lt ↦ lt
  | inr ge ↦ absurd (other (omega (arith, h, ge)))
]

of-height-more : (nodes : List Node) (known bound high : ℕ) (id : NodeId) → IsOfHeight nodes known bound high id → IsOfHeight nodes known (bound + 1) high id
of-height-more nodes known bound high id is = record { new = is.new; live = (let l = is.live in omega (arith, l)); high_is = is.high_is }

pub layer-none : (nodes : List Node) (known high : ℕ) → IsLayer nodes known known high []
layer-none nodes known high = record {
  each = λ k d h. absurd (omega arith);
  all = λ id is. let a = is.new in let b = is.live in absurd (omega (arith, a, b));
  rising = λ i j d lt h. absurd (omega arith);
}

-- of another height
pub layer-skip : (nodes : List Node) (known bound high : ℕ) (ids : List NodeId) → height (tree nodes bound) ≢ high → IsLayer nodes known bound high ids → IsLayer nodes known (bound + 1) high ids
layer-skip nodes known bound high ids other layer = record {
  each = λ k d h. of-height-more nodes known bound high (get_or ids k d) (layer.each k d h);
  all = λ id is. elim (cases_eq id.index bound) [
    | inl same ↦ absurd (other (ap (λ n. height (tree nodes n)) (sym same) ∙ is.high_is))
    | inr apart ↦ layer.all id (record { new = is.new; live = below id.index bound is.live apart; high_is = is.high_is })
  ];
  rising = layer.rising;
}

-- of this height
pub layer-push : (nodes : List Node) (known bound high : ℕ) (ids : List NodeId) → known ≤ bound → height (tree nodes bound) ≡ high → IsLayer nodes known bound high ids
    → IsLayer nodes known (bound + 1) high (ids ++ record { index = bound } ∷ [])
layer-push nodes known bound high ids new same layer =
    let id : NodeId = record { index = bound } in
    let last : IsOfHeight nodes known (bound + 1) high id = record { new = new; live = omega arith; high_is = same } in
    record {
      each = All-push (IsOfHeight nodes known (bound + 1) high) ids id (λ k d h. of-height-more nodes known bound high (get_or ids k d) (layer.each k d h)) last;
      all = λ x is. elim (cases_eq x.index bound) [
        | inl at ↦
            let make : ℕ → NodeId = λ n. record { index = n } in
            subst (Contains (ids ++ id ∷ [])) (ap make (sym at)) (Contains-push ids id)
        | inr apart ↦ Contains-append_left ids (id ∷ []) x (layer.all x (record { new = is.new; live = below x.index bound is.live apart; high_is = is.high_is }))
      ];
      rising = all_pairs_push (λ x y. x.index < y.index) ids id layer.rising (λ k d h. (layer.each k d h).live);
    }

pub layers-none : (nodes : List Node) (known : ℕ) → AreLayers nodes known known (replicate 69 [])
layers-none nodes known = record {
  size = length-replicate {A = List NodeId} 69 [];
  each = λ high h. subst (IsLayer nodes known known high) (sym (get_or-replicate 69 high [] [] h)) (layer-none nodes known high);
  low = λ id a b. absurd (omega (arith, a, b));
}

pub layers-put : (nodes : List Node) (known bound high : ℕ) (layers : List (List NodeId)) → known ≤ bound → height (tree nodes bound) ≡ high → high < 69
    → AreLayers nodes known bound layers
    → AreLayers nodes known (bound + 1) (slice_set layers high (slice_index_or layers high [] ++ record { index = bound } ∷ []))
layers-put nodes known bound high layers new same lt are =
    let more : List NodeId = slice_index_or layers high [] ++ record { index = bound } ∷ [] in
    let size = are.size in
    record {
      size = length-set layers high more ∙ are.size;
      each = λ other h. elim (cases_eq other high) [
        | inl here ↦
            let read : get_or (set layers high more) high [] ≡ more = get_or-set_same layers high more [] (omega (arith, size, lt)) in
            let pushed : IsLayer nodes known (bound + 1) high more = layer-push nodes known bound high (slice_index_or layers high []) new same (are.each high lt) in
            subst (λ n. IsLayer nodes known (bound + 1) n (get_or (set layers high more) n [])) (sym here) (subst (IsLayer nodes known (bound + 1) high) (sym read) pushed)
        | inr apart ↦
            let read : get_or (set layers high more) other [] ≡ get_or layers other [] = get_or-set_other layers high other more [] apart in
            subst (IsLayer nodes known (bound + 1) other) (sym read) (layer-skip nodes known bound other (get_or layers other []) (λ e. apart (sym e ∙ same)) (are.each other h))
      ];
      low = λ id a b. elim (cases_eq id bound) [
        | inl here ↦ subst (λ n. height (tree nodes n) < 69) (sym here) (subst (λ n. n < 69) (sym same) lt)
        | inr apart ↦ are.low id a (below id bound b apart)
      ];
    }

pub put-list : {X : Type 0} (f : X → List NodeId) (L : List X) (b : ℕ) (v w : X) (id : NodeId) (now : List (List NodeId)) → map f L ≡ now → b < length now
    → w ≡ slice_index_or L b w → f v ≡ f w ++ id ∷ [] → map f (set L b v) ≡ slice_set now b (slice_index_or now b [] ++ id ∷ [])
put-list f L b v w id now view lt at e =
    let as_long : length (map f L) ≡ length now = ap length view in
    let same : f w ≡ slice_index_or (map f L) b [] = ap f at ∙ sym (get_map f L b w [] (omega (arith, lt, as_long, length_map f L))) in
    map_set f L b v ∙ ap (set (map f L) b) (e ∙ ap (λ l. l ++ id ∷ []) same) ∙ ap (λ z. slice_set z b (slice_index_or z b [] ++ id ∷ [])) view

-- ---- one height
-- before the first height
pub under-first : (s : Filling) (from to : ℕ) → from ≤ to → IsFilledTo s from → IsFilledUnder s from to 0
under-first s from to range at = record {
  new = at.new;
  before = at.placed;
  under = λ id live low. absurd (omega (arith, low));
  above = λ id late live low. at.free id (let new = at.new in omega (arith, new, late)) late;
  behind = λ id known far. at.free id known (omega (arith, range, far));
}

-- after the last one
pub under-last : (s : Filling) (from to : ℕ) (layers : List (List NodeId)) → from ≤ to → AreLayers s.nodes from to layers → IsFilledUnder s from to 69 → IsFilledTo s to
under-last s from to layers range are at = record {
  new = let new = at.new in omega (arith, new, range);
  placed = λ id live. elim (cases_lt id from) [
    | inl early ↦ at.before id early
    | inr late ↦ at.under id live (are.low id late live)
  ];
  free = at.behind;
}

module _ (s : Filling) (from to high : ℕ) (ids : List NodeId) (at : IsFilledUnder s from to high) (layer : IsLayer s.nodes from to high ids) where
  -- the nodes of a layer are due once each lower node is assigned
  pub due-layer : IsSound s.nodes → to ≤ length s.nodes → AreDue s ids
  due-layer sound end = record {
    each = λ k x h.
        let id = get_or ids k x in
        let is = layer.each k x h in
        let live = is.live in
        let high_is = is.high_is in
        record {
          new = let a = at.new in let b = is.new in omega (arith, a, b);
          live = omega (arith, live, end);
          free = at.above id.index is.new live (omega (arith, high_is));
          children = λ l r node.
              let pair = node-at s.nodes id.index (Pair l r) sound node in
              let lb = pair.1 in
              let rb = pair.2 in
              let tall : height (tree s.nodes id.index) ≡ max (height (tree s.nodes l.index)) (height (tree s.nodes r.index)) + 1 = ap height pair.0 in (
                at.under l.index (omega (arith, lb, live)) (omega (arith, tall, high_is, le-max_left (height (tree s.nodes l.index)) (height (tree s.nodes r.index)))),
                at.under r.index (omega (arith, rb, live)) (omega (arith, tall, high_is, le-max_right (height (tree s.nodes l.index)) (height (tree s.nodes r.index)))),
              );
        };
    once = λ i j d lt h. let up = layer.rising i j d lt h in λ e. absurd (omega (arith, up, e));
  }

  -- after the layer is assigned, the next height may be processed
  pub under-next : (t : Filling) → Assigns s t ids → IsFilledUnder t from to (high + 1)
  under-next t all =
      let nodes = same-nodes s t all.continues in
      let known = all.continues.known in
      record {
        new = rw known at.new;
        before = λ id lt. all.continues.still id (at.before id lt);
        under = λ id live. rw nodes (λ low. elim (cases_lt (height (tree s.nodes id)) high) [
          | inl lower ↦ all.continues.still id (at.under id live lower)
          | inr ge ↦ elim (cases_lt id from) [
            | inl early ↦ all.continues.still id (at.before id early)
            | inr late ↦
                let name : NodeId = record { index = id } in
                let in_ids : Contains ids name = layer.all name (record { new = late; live = live; high_is = omega (arith, low, ge) }) in
                subst (λ (x : NodeId). IsSome (assigned t x.index)) in_ids.2 (all.placed in_ids.0 name in_ids.1)
          ]
        ]);
        above = λ id late live. rw nodes (λ low.
            all.others id (λ k x h. let high_is = (layer.each k x h).high_is in
            λ same. let seen : height (tree s.nodes id) ≡ high = ap (λ n. height (tree s.nodes n)) (sym same) ∙ high_is in absurd (omega (arith, seen, low)))
            ∙ at.above id late live (omega (arith, low)));
        behind = λ id new far.
            all.others id (λ k x h. let live = (layer.each k x h).live in λ same. absurd (omega (arith, same, live, far)))
            ∙ at.behind id (subst (λ n. n ≤ id) known new) far;
      }
