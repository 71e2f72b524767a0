-- Old nodes and their trees are unchanged.
use Rattle.std.proofs.Common.{◌≡◌, ℕ, ◌+◌, ◌<◌, ◌≤◌, List, [], ◌∷◌, ◌++◌, length, get_or, slice_get, Some, zero, suc, add-one, ◌⊎◌, inl, inr, ◌^◌, refl, ap, sym, subst, ◌∙◌, arith, append_assoc, append-nil, length-append, take, drop, None, Option}
use Rattle.std.proofs.lemmas.List.{get_or_push, take-append-drop, length-take-le}
use Rattle.std.proofs.lemmas.Option.{slice_get_within, get_or_from_slice_get}
use Rattle.std.proofs.lemmas.Bool.{cases_lt}
use Rattle.std.proofs.Math.Seq.{drop-cons}
use Rattle.std.proofs.lemmas.List.Sums.{sum_by-append}
use Rattle.std.proofs.lemmas.List.{get_or_append_left}
use Rattle.slp_model.specs.declared.NodeId.{NodeId}
use Rattle.slp_model.specs.declared.Node.{Node}
use Rattle.slp_model.specs.declared.Node.TheVariants.{Byte, Pair}
use Rattle.slp_model.specs.Tree.{Tree, Leaf, leaves, IsBalanced}
use Rattle.slp_model.specs.Nodes.{node_tree, trees_onto, trees, tree, Grows, pair_count, pair_weight, IsBelow, IsSound, IsNodeAt, IsLive, root_tree}

pub trees_onto-append : (ts : List Tree) (xs ys : List Node) → trees_onto ts (xs ++ ys) ≡ trees_onto (trees_onto ts xs) ys
trees_onto-append ts [] ys = refl
trees_onto-append ts (x ∷ xs) ys = trees_onto-append (ts ++ node_tree ts x ∷ []) xs ys

pub length-trees_onto : (ts : List Tree) (ns : List Node) → length (trees_onto ts ns) ≡ length ts + length ns
length-trees_onto ts [] = omega arith
length-trees_onto ts (n ∷ ns) = omega (arith, length-trees_onto (ts ++ node_tree ts n ∷ []) ns, length-append ts (node_tree ts n ∷ []))

-- the old trees stay first
pub trees_onto-old : (ts : List Tree) (ns : List Node) (i : ℕ) (d : Tree) → i < length ts → get_or (trees_onto ts ns) i d ≡ get_or ts i d
trees_onto-old ts [] i d h = refl
trees_onto-old ts (n ∷ ns) i d h =
    let longer : i < length (ts ++ node_tree ts n ∷ []) = omega (arith, length-append ts (node_tree ts n ∷ [])) in
    trees_onto-old (ts ++ node_tree ts n ∷ []) ns i d longer ∙ get_or_append_left ts (node_tree ts n ∷ []) d i h

pub length-trees : (ns : List Node) → length (trees ns) ≡ length ns
unfolding trees
length-trees ns = omega (arith, length-trees_onto [] ns)

pub tree-append : (ns ms : List Node) (i : ℕ) → i < length ns → tree (ns ++ ms) i ≡ tree ns i
unfolding tree trees
tree-append ns ms i h =
    let inside : i < length (trees_onto [] ns) = omega (arith, length-trees_onto [] ns) in
    rw (trees_onto-append [] ns ms) (trees_onto-old (trees_onto [] ns) ms i (Leaf 0) inside)

-- if nodes were added, old trees are unchanged
pub tree-grows : (old new : List Node) (p q : ℕ) → Grows old new p q → (i : ℕ) → i < length old → tree new i ≡ tree old i
tree-grows old new p q g i h = rw (g.added) (tree-append old g.more i h)

-- a node that is added last has the tree of its children there
pub tree-push : (ns : List Node) (n : Node) → tree (ns ++ n ∷ []) (length ns) ≡ node_tree (trees ns) n
unfolding tree trees
tree-push ns n = rw (trees_onto-append [] ns (n ∷ [])) (get_or_push (trees_onto [] ns) (node_tree (trees_onto [] ns) n) (Leaf 0) (length ns) (omega (arith, length-trees_onto [] ns)))

-- the tree of a node whose children come before it, over a longer list
node_tree-append : (ns ms : List Node) (n : Node) → IsBelow (length ns) n → node_tree (trees (ns ++ ms)) n ≡ node_tree (trees ns) n
unfolding tree
node_tree-append ns ms (Byte b) h = refl
node_tree-append ns ms (Pair l r) h = let a = tree-append ns ms l.index h.0 in let b = tree-append ns ms r.index h.1 in cc

split-at : (ns : List Node) (i : ℕ) (n : Node) → slice_get ns i ≡ Some n → ns ≡ take i ns ++ (n ∷ drop (i + 1) ns)
split-at ns i n h =
    let within : i < length ns = slice_get_within ns i n h in
    let here : get_or ns i n ≡ n = get_or_from_slice_get ns i n n h in
    let d : drop i ns ≡ get_or ns i n ∷ drop (suc i) ns = drop-cons ns i n within in
    let e : take i ns ++ drop i ns ≡ ns = take-append-drop i ns in
    rw add-one (sym e ∙ ap (λ x. take i ns ++ x) (d ∙ ap (λ x. x ∷ drop (suc i) ns) here))

-- the tree of the node after ps
tree-middle : (ps : List Node) (n : Node) (ms : List Node) → IsBelow (length ps) n → tree (ps ++ (n ∷ ms)) (length ps) ≡ node_tree (trees (ps ++ (n ∷ ms))) n
tree-middle ps n ms h =
    let whole : (ps ++ n ∷ []) ++ ms ≡ ps ++ (n ∷ ms) = append_assoc ps (n ∷ []) ms in
    let inside : length ps < length (ps ++ n ∷ []) = omega (arith, length-append ps (n ∷ [])) in
    let a : tree ((ps ++ n ∷ []) ++ ms) (length ps) ≡ tree (ps ++ n ∷ []) (length ps) = tree-append (ps ++ n ∷ []) ms (length ps) inside in
    let b : tree (ps ++ n ∷ []) (length ps) ≡ node_tree (trees ps) n = tree-push ps n in
    let d : node_tree (trees (ps ++ (n ∷ ms))) n ≡ node_tree (trees ps) n = node_tree-append ps (n ∷ ms) n h in
    ap (λ x. tree x (length ps)) (sym whole) ∙ (a ∙ (b ∙ sym d))

-- the tree of a node whose children come before it
pub tree-at : (ns : List Node) (i : ℕ) (n : Node) → slice_get ns i ≡ Some n → IsBelow i n → tree ns i ≡ node_tree (trees ns) n
tree-at ns i n h below =
    let len : length (take i ns) ≡ i = length-take-le i ns (omega (arith, slice_get_within ns i n h)) in
    let below2 : IsBelow (length (take i ns)) n = subst (λ k. IsBelow k n) (sym len) below in
    let m = tree-middle (take i ns) n (drop (i + 1) ns) below2 in
    let P : List Node → ℕ → Type 0 = λ xs k. tree xs k ≡ node_tree (trees xs) n in
    subst (P ns) len (subst (λ xs. P xs (length (take i ns))) (sym (split-at ns i n h)) m)

pub node-at : (ns : List Node) (i : ℕ) (n : Node) → IsSound ns → slice_get ns i ≡ Some n → IsNodeAt ns i n
unfolding tree
node-at ns i (Byte b) s h = tree-at ns i (Byte b) h (s.children i (Byte b) h)
node-at ns i (Pair l r) s h = let below = s.children i (Pair l r) h in (tree-at ns i (Pair l r) h below, below.0, below.1)

-- what is in a list after one more
pub slice_get-push : {X : Type 0} (xs : List X) (n m : X) (i : ℕ) → slice_get (xs ++ n ∷ []) i ≡ Some m → ((i < length xs) × (slice_get xs i ≡ Some m)) ⊎ ((i ≡ length xs) × (n ≡ m))
slice_get-push [] n m zero h = inr (refl, get_or_from_slice_get (n ∷ []) 0 m m h)
slice_get-push [] n m (suc i) h = absurd (cc)
slice_get-push (x ∷ xs) n m zero h = inl (omega arith, h)
slice_get-push (x ∷ xs) n m (suc i) h = elim (slice_get-push xs n m i h) [ inl old ↦ inl (omega (arith, old.0), old.1) | inr new ↦ inr (ap suc new.0, new.1) ]

pub IsSound-push : (ns : List Node) (n : Node) → IsSound ns → IsBelow (length ns) n → IsBalanced (node_tree (trees ns) n) → leaves (node_tree (trees ns) n) ≤ 2 ^ 48 → IsSound (ns ++ n ∷ [])
IsSound-push ns n s below bal short = record {
  children = λ i m h. elim (slice_get-push ns n m i h) [
    | inl old ↦ s.children i m old.1
    | inr new ↦ subst (λ x. IsBelow i x) new.1 (subst (λ k. IsBelow k n) (sym new.0) below)
  ];
  balanced = λ i h. by_index IsBalanced i h (s.balanced i) bal;
  short = λ i h. by_index (λ t. leaves t ≤ 2 ^ 48) i h (s.short i) short;
}
  where
    by_index : (P : Tree → Type 0) (i : ℕ) → i < length (ns ++ n ∷ []) → (i < length ns → P (tree ns i)) → P (node_tree (trees ns) n) → P (tree (ns ++ n ∷ []) i)
    by_index P i h old new = elim (cases_lt i (length ns)) [
      | inl lt ↦ subst P (sym (tree-append ns (n ∷ []) i lt)) (old lt)
      | inr ge ↦
          let e : length ns ≡ i = omega (arith, length-append ns (n ∷ [])) in
          subst (λ k. P (tree (ns ++ n ∷ []) k)) e (subst P (sym (tree-push ns n)) new)
    ]

-- growth step by step
pub Grows-none : (ns : List Node) (p q : ℕ) → p ≤ q → Grows ns ns p q
unfolding pair_count
Grows-none ns p q h = record { more = []; added = sym (append-nil ns); paid = omega arith }

pub Grows-push : (ns : List Node) (n : Node) (p q : ℕ) → pair_count (n ∷ []) + p ≤ q → Grows ns (ns ++ n ∷ []) p q
Grows-push ns n p q h = record { more = n ∷ []; added = refl; paid = h }

pair_count-append : (xs ys : List Node) → pair_count (xs ++ ys) ≡ pair_count xs + pair_count ys
unfolding pair_count
pair_count-append xs ys = sum_by-append pair_weight xs ys

pub Grows-trans : (a b c : List Node) (p q r : ℕ) → Grows a b p q → Grows b c q r → Grows a c p r
Grows-trans a b c p q r g h = record {
  more = g.more ++ h.more;
  added = h.added ∙ (ap (λ x. x ++ h.more) g.added ∙ append_assoc a g.more h.more);
  paid = omega (arith, pair_count-append g.more h.more, g.paid, h.paid);
}

-- a grown store has no fewer nodes
pub Grows-length : (a b : List Node) (p q : ℕ) → Grows a b p q → length a ≤ length b
Grows-length a b p q g = rw g.added (omega (arith, length-append a g.more))

-- for a caller of several calls
pub ruleset growing = (tree-grows, Grows-trans, Grows-length)

-- the same of roots
pub root_tree-grows : (old new : List Node) (p q : ℕ) → Grows old new p q → (r : Option NodeId) → IsLive old r → root_tree new r ≡ root_tree old r
root_tree-grows old new p q g None h = refl
root_tree-grows old new p q g (Some id) h = ap Some (tree-grows old new p q g id.index h)
