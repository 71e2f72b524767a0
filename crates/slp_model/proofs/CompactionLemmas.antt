-- The kept nodes, under their new numbers.
use Rattle.std.proofs.Common.{◌≡◌, ℕ, zero, suc, ◌<◌, ◌≤◌, ◌^◌, inl, inr, Bool, true, false, List, [], ◌∷◌, ◌++◌, map, length, get_or, slice_get, take, Option, Some, None, refl, ap, sym, subst, ◌∙◌, arith, length-append}
use Rattle.std.proofs.lemmas.Bool.{cases_lt}
use Rattle.std.proofs.lemmas.List.{get_or_push, get_or_append_left, map-append, take_all}
use Rattle.std.proofs.lemmas.Option.{slice_get_within, get_or_from_slice_get, slice_get-get_or}
use Rattle.slp_model.specs.declared.NodeId.{NodeId}
use Rattle.slp_model.specs.declared.Node.{Node}
use Rattle.slp_model.specs.declared.Node.TheVariants.{Byte, Pair}
use Rattle.slp_model.specs.Tree.{Tree, Fork, leaves, IsBalanced}
use Rattle.slp_model.specs.Nodes.{tree, trees, node_tree, IsSound, IsNodeAt, IsBelow}
use Rattle.slp_model.proofs.NodesLemmas.{tree-append, tree-push, node-at, IsSound-push}
use Rattle.slp_model.specs.Distinct.{AreDistinct, AreOfBytes, IsOfByte}
use Rattle.slp_model.specs.Kept.{Keeps, IsPlanOf, Reaches, Here, Left, Right, RootReaches}
use Rattle.slp_model.specs.Thin.{rank, renumbered, moved, kept_of, thin, AnyReaches, CompactionLaw}
use Rattle.slp_model.proofs.KeptLemmas.{cases_eq}
use Rattle.slp_model.proofs.RankLemmas.{rank-kept, rank-other, rank-below, rank-apart, kept-within, kept-on, kept-skip}

-- an element of a list with one more
get-prefix : {X : Type 0} (xs : List X) (x y : X) (i : ℕ) → slice_get xs i ≡ Some y → slice_get (xs ++ x ∷ []) i ≡ Some y
get-prefix xs x y i h =
    let lt : i < length xs = slice_get_within xs i y h in
    let more : i < length (xs ++ x ∷ []) = omega (arith, lt, length-append xs (x ∷ [])) in
    slice_get-get_or (xs ++ x ∷ []) i y more ∙ ap Some (get_or_append_left xs (x ∷ []) y i lt ∙ get_or_from_slice_get xs i y y h)

get-last : {X : Type 0} (xs : List X) (x : X) (i : ℕ) → i ≡ length xs → slice_get (xs ++ x ∷ []) i ≡ Some x
get-last xs x i e =
    let more : i < length (xs ++ x ∷ []) = omega (arith, e, length-append xs (x ∷ [])) in
    slice_get-get_or (xs ++ x ∷ []) i x more ∙ ap Some (get_or_push xs x x i (sym e))

node-of : (ns : List Node) (i : ℕ) → i < length ns → (n : Node) × (slice_get ns i ≡ Some n)
node-of [] i lt = absurd (omega (arith, lt))
node-of (n ∷ ns) i lt = (get_or (n ∷ ns) i n, slice_get-get_or (n ∷ ns) i n lt)

-- ms are the kept ones of the first k nodes
record IsSoFar (ns : List Node) (ks : List Bool) (k : ℕ) (ms : List Node) : Type 0 where
  pub long : length ms ≡ rank ks k
  pub node : (i : ℕ) (n : Node) → i < k → Keeps ks i → slice_get ns i ≡ Some n → slice_get ms (rank ks i) ≡ Some (renumbered (rank ks) n)
  pub back : (j : ℕ) → j < length ms → (i : ℕ) × (i < k) × Keeps ks i × (rank ks i ≡ j)
  pub same : (i : ℕ) → i < k → Keeps ks i → tree ms (rank ks i) ≡ tree ns i
  pub sound : IsSound ms

so-far-none : (ns : List Node) (ks : List Bool) → IsSoFar ns ks 0 []
so-far-none ns ks = record {
  long = refl;
  node = λ i n lt m x. absurd (omega (arith, lt));
  back = λ j lt. absurd (omega (arith, lt));
  same = λ i lt m. absurd (omega (arith, lt));
  sound = record { children = λ i n at. cc; balanced = λ i lt. absurd (omega (arith, lt)); short = λ i lt. absurd (omega (arith, lt)) };
}

so-far-skip : (ns : List Node) (ks : List Bool) (k : ℕ) (ms : List Node) → IsSoFar ns ks k ms → get_or ks k false ≡ false → IsSoFar ns ks (suc k) ms
so-far-skip ns ks k ms t none = record {
  long = t.long ∙ sym (rank-other ks k none);
  node = λ i n lt m x. t.node i n (earlier i lt m) m x;
  back = λ j lt. let w = t.back j lt in (w.0, omega (arith, w.1), w.2, w.3);
  same = λ i lt m. t.same i (earlier i lt m) m;
  sound = t.sound;
}
  where
    earlier : (i : ℕ) → i < suc k → Keeps ks i → i < k
    earlier i lt m = elim (cases_eq i k) [
      | inl e ↦ let no : true ≡ false = sym m ∙ (ap (λ n. get_or ks n false) e ∙ none) in absurd (cc no)
      | inr ne ↦ omega (arith, lt, ne)
    ]

-- the tree of the node under its new number
new-tree : (ns : List Node) (ks : List Bool) (k : ℕ) (ms : List Node) (n : Node) → IsSoFar ns ks k ms → IsNodeAt ns k n → ((l r : NodeId) → n ≡ Pair l r → Keeps ks l.index × Keeps ks r.index) → node_tree (trees ms) (renumbered (rank ks) n) ≡ tree ns k
unfolding tree
new-tree ns ks k ms (Byte b) t at kept = sym at
new-tree ns ks k ms (Pair l r) t at kept =
    let m = kept l r refl in
    let a : tree ms (rank ks l.index) ≡ tree ns l.index = t.same l.index at.1 m.0 in
    let b : tree ms (rank ks r.index) ≡ tree ns r.index = t.same r.index at.2 m.1 in
    (λ j. Fork (a j) (b j)) ∙ sym at.0

new-below : (ns : List Node) (ks : List Bool) (k : ℕ) (n : Node) (m : ℕ) → m ≡ rank ks k → IsNodeAt ns k n → ((l r : NodeId) → n ≡ Pair l r → Keeps ks l.index × Keeps ks r.index) → IsBelow m (renumbered (rank ks) n)
new-below ns ks k (Byte b) m e at kept = tt
new-below ns ks k (Pair l r) m e at kept =
    let both = kept l r refl in
    (omega (arith, rank-below ks l.index k both.0 at.1, e), omega (arith, rank-below ks r.index k both.1 at.2, e))

so-far-on : (ns : List Node) (ks : List Bool) (k : ℕ) (ms : List Node) (n : Node) → IsSoFar ns ks k ms → IsSound ns → IsPlanOf ns ks → Keeps ks k → slice_get ns k ≡ Some n → IsSoFar ns ks (suc k) (ms ++ renumbered (rank ks) n ∷ [])
so-far-on ns ks k ms n t sound plan keep at = record {
  long = omega (arith, length-append ms (x ∷ []), t.long, rank-kept ks k keep);
  node = λ i m lt im is. elim (cases_eq i k) [
    | inl e ↦
        let same : Some m ≡ Some n = sym is ∙ (ap (λ p. slice_get ns p) e ∙ at) in
        let one : m ≡ n = cc same in
        get-last ms x (rank ks i) (ap (rank ks) e ∙ sym t.long) ∙ ap (λ (p : Node). Some (renumbered (rank ks) p)) (sym one)
    | inr ne ↦ get-prefix ms x (renumbered (rank ks) m) (rank ks i) (t.node i m (omega (arith, lt, ne)) im is)
  ];
  back = λ j lt. elim (cases_lt j (length ms)) [
    | inl old ↦ let w = t.back j old in (w.0, omega (arith, w.1), w.2, w.3)
    | inr ge ↦ (k, omega arith, keep, omega (arith, ge, lt, length-append ms (x ∷ []), t.long))
  ];
  same = λ i lt im. elim (cases_eq i k) [
    | inl e ↦ ap (λ p. tree (ms ++ x ∷ []) (rank ks p)) e ∙ (ap (λ p. tree (ms ++ x ∷ []) p) (sym t.long) ∙ (tree-push ms x ∙ (new ∙ ap (λ p. tree ns p) (sym e))))
    | inr ne ↦
        let before : i < k = omega (arith, lt, ne) in
        tree-append ms (x ∷ []) (rank ks i) (omega (arith, rank-below ks i k im before, t.long)) ∙ t.same i before im
  ];
  sound = IsSound-push ms x t.sound (new-below ns ks k n (length ms) t.long node children) (subst IsBalanced (sym new) (sound.balanced k within)) (subst (λ (u : Tree). leaves u ≤ 2 ^ 48) (sym new) (sound.short k within));
}
  where
    x : Node
    x = renumbered (rank ks) n

    within : k < length ns
    within = slice_get_within ns k n at

    node : IsNodeAt ns k n
    node = node-at ns k n sound at

    children : (l r : NodeId) → n ≡ Pair l r → Keeps ks l.index × Keeps ks r.index
    children l r e = plan.closed k l r (at ∙ ap Some e) keep

    new : node_tree (trees ms) (renumbered (rank ks) n) ≡ tree ns k
    new = new-tree ns ks k ms n t node children

-- the kept ones of the first k nodes, under their new numbers
abbrev pub thin_to : List Node → List Bool → ℕ → List Node
thin_to ns ks k = map (renumbered (rank ks)) (kept_of (take k ns) ks)

pub thin-on : (ns : List Node) (ks : List Bool) (k : ℕ) (n : Node) → slice_get ns k ≡ Some n → Keeps ks k → thin_to ns ks (suc k) ≡ thin_to ns ks k ++ renumbered (rank ks) n ∷ []
thin-on ns ks k n at keep = ap (map (renumbered (rank ks))) (kept-on ns ks k n at keep) ∙ map-append (renumbered (rank ks)) (kept_of (take k ns) ks) (n ∷ [])

pub thin-skip : (ns : List Node) (ks : List Bool) (k : ℕ) → get_or ks k false ≡ false → thin_to ns ks (suc k) ≡ thin_to ns ks k
thin-skip ns ks k none = ap (map (renumbered (rank ks))) (kept-skip ns ks k none)

pub thin-all : (ns : List Node) (ks : List Bool) → thin_to ns ks (length ns) ≡ thin ns ks
thin-all ns ks = ap (λ (xs : List Node). map (renumbered (rank ks)) (kept_of xs ks)) (take_all (length ns) ns (omega arith))

so-far : (ns : List Node) (ks : List Bool) → IsSound ns → IsPlanOf ns ks → (k : ℕ) → k ≤ length ns → IsSoFar ns ks k (thin_to ns ks k)
so-far ns ks sound plan zero le = so-far-none ns ks
so-far ns ks sound plan (suc k) le = by (get_or ks k false) refl (so-far ns ks sound plan k (omega (arith, le)))
  where
    by : (b : Bool) → get_or ks k false ≡ b → IsSoFar ns ks k (thin_to ns ks k) → IsSoFar ns ks (suc k) (thin_to ns ks (suc k))
    by true keep t =
        let w = node-of ns k (omega (arith, le)) in
        subst (λ (xs : List Node). IsSoFar ns ks (suc k) xs) (sym (thin-on ns ks k w.0 w.1 keep)) (so-far-on ns ks k (thin_to ns ks k) w.0 t sound plan keep w.1)
    by false none t =
        subst (λ (xs : List Node). IsSoFar ns ks (suc k) xs) (sym (thin-skip ns ks k none)) (so-far-skip ns ks k (thin_to ns ks k) t none)

thin-whole : (ns : List Node) (ks : List Bool) → IsSound ns → IsPlanOf ns ks → IsSoFar ns ks (length ns) (thin ns ks)
thin-whole ns ks sound plan = subst (λ (xs : List Node). IsSoFar ns ks (length ns) xs) (thin-all ns ks) (so-far ns ks sound plan (length ns) (omega arith))

-- paths among the kept nodes
path-thin : (ns : List Node) (ks : List Bool) (ms : List Node) → IsSoFar ns ks (length ns) ms → IsPlanOf ns ks → (i j : ℕ) → Keeps ks i → Reaches ns i j → Reaches ms (rank ks i) (rank ks j)
path-thin ns ks ms t plan i j m (Here _ _) = Here ms (rank ks i)
path-thin ns ks ms t plan i j m (Left _ _ _ l r at x) =
    let w = plan.closed i l r at m in
    Left ms (rank ks i) (rank ks j) (record { index = rank ks l.index }) (record { index = rank ks r.index }) (t.node i (Pair l r) (slice_get_within ns i (Pair l r) at) m at) (path-thin ns ks ms t plan l.index j w.0 x)
path-thin ns ks ms t plan i j m (Right _ _ _ l r at x) =
    let w = plan.closed i l r at m in
    Right ms (rank ks i) (rank ks j) (record { index = rank ks l.index }) (record { index = rank ks r.index }) (t.node i (Pair l r) (slice_get_within ns i (Pair l r) at) m at) (path-thin ns ks ms t plan r.index j w.1 x)

root-thin : (ns : List Node) (ks : List Bool) (ms : List Node) → IsSoFar ns ks (length ns) ms → IsPlanOf ns ks → (root : Option NodeId) → ((i : ℕ) → RootReaches ns root i → Keeps ks i) → (j : ℕ) → RootReaches ns root j → RootReaches ms (moved ks root) (rank ks j)
root-thin ns ks ms t plan None keeps j x = x
root-thin ns ks ms t plan (Some id) keeps j x = path-thin ns ks ms t plan id.index j (keeps id.index (Here ns id.index)) x

any-thin : (ns : List Node) (ks : List Bool) (ms : List Node) → IsSoFar ns ks (length ns) ms → IsPlanOf ns ks → (roots : List (Option NodeId)) → ((i : ℕ) → AnyReaches ns roots i → Keeps ks i) → (j : ℕ) → AnyReaches ns roots j → AnyReaches ms (map (moved ks) roots) (rank ks j)
any-thin ns ks ms t plan [] keeps j x = x
any-thin ns ks ms t plan (root ∷ roots) keeps j x = elim x [
  | inl here ↦ inl (root-thin ns ks ms t plan root (λ i y. keeps i (inl y)) j here)
  | inr later ↦ inr (any-thin ns ks ms t plan roots (λ i y. keeps i (inr y)) j later)
]

-- no two kept nodes become equal
left-of : Node → ℕ
left-of (Byte b) = 0
left-of (Pair l r) = l.index

right-of : Node → ℕ
right-of (Byte b) = 0
right-of (Pair l r) = r.index

renumber-apart : (ks : List Bool) (m n : Node) → ((l r : NodeId) → m ≡ Pair l r → Keeps ks l.index × Keeps ks r.index) → ((l r : NodeId) → n ≡ Pair l r → Keeps ks l.index × Keeps ks r.index) → renumbered (rank ks) m ≡ renumbered (rank ks) n → m ≡ n
unfolding left-of right-of
renumber-apart ks (Byte a) (Byte b) p q e = e
renumber-apart ks (Byte a) (Pair l r) p q e = let k : Byte a ≡ Pair (record { index = rank ks l.index }) (record { index = rank ks r.index }) = e in cc
renumber-apart ks (Pair l r) (Byte b) p q e = let k : Pair (record { index = rank ks l.index }) (record { index = rank ks r.index }) ≡ Byte b = e in cc
renumber-apart ks (Pair l r) (Pair m n) p q e =
    let k : Pair (record { index = rank ks l.index }) (record { index = rank ks r.index }) ≡ Pair (record { index = rank ks m.index }) (record { index = rank ks n.index }) = e in
    let one : rank ks l.index ≡ rank ks m.index = ap left-of k in
    let two : rank ks r.index ≡ rank ks n.index = ap right-of k in
    let a = p l r refl in
    let b = q m n refl in
    let x : l.index ≡ m.index = rank-apart ks l.index m.index a.0 b.0 one in
    let y : r.index ≡ n.index = rank-apart ks r.index n.index a.1 b.1 two in
    λ j. Pair (record { index = x j }) (record { index = y j })

-- the next kept node, under its new number, may follow those before it
pub next-below : (ns : List Node) (ks : List Bool) (k : ℕ) (n : Node) → IsSound ns → IsPlanOf ns ks → Keeps ks k → slice_get ns k ≡ Some n → IsBelow (length (thin_to ns ks k)) (renumbered (rank ks) n)
next-below ns ks k n sound plan keep at =
    let t = so-far ns ks sound plan k (omega (arith, slice_get_within ns k n at)) in
    new-below ns ks k n (length (thin_to ns ks k)) t.long (node-at ns k n sound at) (λ l r e. plan.closed k l r (at ∙ ap Some e) keep)

pub next-tree : (ns : List Node) (ks : List Bool) (k : ℕ) (n : Node) → IsSound ns → IsPlanOf ns ks → Keeps ks k → slice_get ns k ≡ Some n → node_tree (trees (thin_to ns ks k)) (renumbered (rank ks) n) ≡ tree ns k
next-tree ns ks k n sound plan keep at =
    let t = so-far ns ks sound plan k (omega (arith, slice_get_within ns k n at)) in
    new-tree ns ks k (thin_to ns ks k) n t (node-at ns k n sound at) (λ l r e. plan.closed k l r (at ∙ ap Some e) keep)

-- and it isn't among them
pub next-new : (ns : List Node) (ks : List Bool) (k : ℕ) (n : Node) → IsSound ns → IsPlanOf ns ks → AreDistinct ns → Keeps ks k → slice_get ns k ≡ Some n → (j : ℕ) → slice_get (thin_to ns ks k) j ≡ Some (renumbered (rank ks) n) → ⊥
next-new ns ks k n sound plan apart keep at j h =
    let within : k < length ns = slice_get_within ns k n at in
    let t = so-far ns ks sound plan k (omega (arith, within)) in
    let v = t.back j (slice_get_within (thin_to ns ks k) j (renumbered (rank ks) n) h) in
    let w = node-of ns v.0 (omega (arith, v.1, within)) in
    let a : slice_get (thin_to ns ks k) j ≡ Some (renumbered (rank ks) w.0) = ap (λ p. slice_get (thin_to ns ks k) p) (sym v.3) ∙ t.node v.0 w.0 v.1 v.2 w.1 in
    let c : Some (renumbered (rank ks) n) ≡ Some (renumbered (rank ks) w.0) = sym h ∙ a in
    let e : w.0 ≡ n = renumber-apart ks w.0 n (λ l r q. plan.closed v.0 l r (w.1 ∙ ap Some q) v.2) (λ l r q. plan.closed k l r (at ∙ ap Some q) keep) (sym (cc c)) in
    let f : v.0 ≡ k = apart v.0 k n (w.1 ∙ ap Some e) at in
    omega (arith, v.1, f)

-- where a node of the compacted store comes from
record ComesFrom (ns : List Node) (ks : List Bool) (j : ℕ) (m : Node) : Type 0 where
  pub index : ℕ
  pub kept : Keeps ks index
  pub rank_is : rank ks index ≡ j
  pub node : Node
  pub at : slice_get ns index ≡ Some node
  pub is : m ≡ renumbered (rank ks) node

comes-from : (ns : List Node) (ks : List Bool) (ms : List Node) → IsSoFar ns ks (length ns) ms → (j : ℕ) (m : Node) → slice_get ms j ≡ Some m → ComesFrom ns ks j m
comes-from ns ks ms t j m h =
    let v = t.back j (slice_get_within ms j m h) in
    let x = node-of ns v.0 v.1 in
    let a : slice_get ms j ≡ Some (renumbered (rank ks) x.0) = ap (λ p. slice_get ms p) (sym v.3) ∙ t.node v.0 x.0 v.1 v.2 x.1 in
    let c : Some m ≡ Some (renumbered (rank ks) x.0) = sym h ∙ a in
    record { index = v.0; kept = v.2; rank_is = v.3; node = x.0; at = x.1; is = cc c }

thin-distinct : (ns : List Node) (ks : List Bool) (ms : List Node) → IsSoFar ns ks (length ns) ms → IsPlanOf ns ks → AreDistinct ns → AreDistinct ms
thin-distinct ns ks ms t plan apart i j n hi hj =
    let v = comes-from ns ks ms t i n hi in
    let w = comes-from ns ks ms t j n hj in
    let e : v.node ≡ w.node = renumber-apart ks v.node w.node (λ l r q. plan.closed v.index l r (v.at ∙ ap Some q) v.kept) (λ l r q. plan.closed w.index l r (w.at ∙ ap Some q) w.kept) (sym v.is ∙ w.is) in
    let f : v.index ≡ w.index = apart v.index w.index w.node (v.at ∙ ap Some e) w.at in
    sym v.rank_is ∙ (ap (rank ks) f ∙ w.rank_is)

pub byte-renumbered : (f : ℕ → ℕ) (n : Node) → IsOfByte n → IsOfByte (renumbered f n)
byte-renumbered f (Byte b) h = h
byte-renumbered f (Pair l r) h = tt

thin-bytes : (ns : List Node) (ks : List Bool) (ms : List Node) → IsSoFar ns ks (length ns) ms → AreOfBytes ns → AreOfBytes ms
thin-bytes ns ks ms t bytes j m h =
    let v = comes-from ns ks ms t j m h in
    subst IsOfByte (sym v.is) (byte-renumbered (rank ks) v.node (bytes v.index v.node v.at))

pub thin-law : CompactionLaw
thin-law ns ks sound plan = record {
  sound = t.sound;
  bytes = thin-bytes ns ks (thin ns ks) t;
  distinct = thin-distinct ns ks (thin ns ks) t plan;
  long = t.long;
  live = λ i h. omega (arith, rank-below ks i (length ns) h (within i h), t.long);
  node = λ i n h at. t.node i n (within i h) h at;
  trees = λ i h. t.same i (within i h) h;
  exact = λ j lt. let w = t.back j lt in (w.0, w.2, w.3);
  reached = λ roots exact j lt.
      let w = t.back j lt in
      subst (λ n. AnyReaches (thin ns ks) (map (moved ks) roots) n) w.3
      (any-thin ns ks (thin ns ks) t plan roots (λ i x. (exact i).1 x) w.0 ((exact w.0).0 w.2));
}
  where
    t : IsSoFar ns ks (length ns) (thin ns ks)
    t = thin-whole ns ks sound plan

    within : (i : ℕ) → Keeps ks i → i < length ns
    within i h = omega (arith, kept-within ks i h, plan.long)
