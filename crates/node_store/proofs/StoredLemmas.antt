-- A store with one more node, and what its facts say.
use Rattle.std.proofs.Common.{◌≡◌, ◌≢◌, ℕ, ◌+◌, ◌^◌, ◌*◌, ◌%◌, ◌<◌, ◌≤◌, inl, inr, List, [], ◌∷◌, ◌++◌, length, get_or, slice_get, Some, refl, ap, sym, subst, ◌∙◌, arith, length-append}
use Rattle.std.proofs.Common.{Bool, true, false, zero, suc, max}
use Rattle.std.specs.List.{IsDistinct, AllByRecursion}
use Rattle.std.proofs.lemmas.Bool.{cases_lt}
use Rattle.std.proofs.lemmas.Nat.{pow-add}
use Rattle.std.proofs.Math.Nat.{mod-eq_of_lt}
use Rattle.std.proofs.Math.Pow.{pow_mono}
use Rattle.std.proofs.lemmas.Option.{slice_get_within, get_or_from_slice_get, slice_get-get_or}
use Rattle.std.proofs.lemmas.List.{get_or_push, get_or_append_left}
use Rattle.slp_model.specs.declared.Node.{Node}
use Rattle.slp_model.specs.declared.NodeId.{NodeId}
use Rattle.slp_model.specs.declared.Node.TheVariants.{Pair}
use Rattle.slp_model.specs.Tree.{Tree, leaves, height, IsBalanced, IsNear}
use Rattle.slp_model.specs.Nodes.{tree, trees, node_tree, IsSound, Grows, pair_count}
use Rattle.span_types.specs.Fibonacci.{fibonacci, height_limit}
use Rattle.slp_model.proofs.TreeLemmas.{height-most, height-enough, height-by_leaves}
use Rattle.slp_model.proofs.NodesLemmas.{slice_get-push, tree-append, tree-push, tree-at, IsSound-push, Grows-none, Grows-push}
use Rattle.node_store.specs.declared.Facts.{Facts}
use Rattle.slp_model.specs.Distinct.{IsOfByte}
use Rattle.node_store.specs.Blocks.{IsBlockOf}
use Rattle.node_store.specs.Stored.{AreOfTrees, IsStored, IsNext, IsKept}

-- one more of them, for one more node
pub AreOfTrees-push : (f : Tree → ℕ) (ns : List Node) (xs : List ℕ) (n : Node) (x : ℕ) → AreOfTrees f ns xs → x ≡ f (node_tree (trees ns) n) → AreOfTrees f (ns ++ n ∷ []) (xs ++ x ∷ [])
AreOfTrees-push f ns xs n x a is = record {
  as_long = omega (arith, length-append ns (n ∷ []), length-append xs (x ∷ []), a.as_long);
  each = each;
}
  where
    each : (i y : ℕ) → slice_get (xs ++ x ∷ []) i ≡ Some y → y ≡ f (tree (ns ++ n ∷ []) i)
    each i y h =
        let within : i < length (xs ++ x ∷ []) = slice_get_within (xs ++ x ∷ []) i y h in
        let here : get_or (xs ++ x ∷ []) i y ≡ y = get_or_from_slice_get (xs ++ x ∷ []) i y y h in
        elim (cases_lt i (length xs)) [
          | inl lt ↦
              let old : slice_get xs i ≡ Some y = slice_get-get_or xs i y lt ∙ ap Some (sym (get_or_append_left xs (x ∷ []) y i lt) ∙ here) in
              let inside : i < length ns = omega (arith, a.as_long) in
              a.each i y old ∙ ap f (sym (tree-append ns (n ∷ []) i inside))
          | inr ge ↦
              let e : length ns ≡ i = omega (arith, length-append xs (x ∷ []), a.as_long) in
              let e2 : length xs ≡ i = omega (arith, a.as_long) in
              let new : y ≡ x = sym here ∙ get_or_push xs x y i e2 in
              let top : tree (ns ++ n ∷ []) i ≡ node_tree (trees ns) n = subst (λ k. tree (ns ++ n ∷ []) k ≡ node_tree (trees ns) n) e (tree-push ns n) in
              new ∙ (is ∙ ap f (sym top))
        ]

pub IsStored-push : (ns : List Node) (lens heights : List ℕ) (n : Node) (f : Facts) → IsStored ns lens heights → IsNext ns n f → IsStored (ns ++ n ∷ []) (lens ++ f.len ∷ []) (heights ++ f.height ∷ [])
IsStored-push ns lens heights n f s x = record {
  sound = IsSound-push ns n s.sound x.below x.balanced x.short;
  bytes = λ i m h. elim (slice_get-push ns n m i h) [ inl old ↦ s.bytes i m old.1 | inr new ↦ subst IsOfByte new.1 x.byte ];
  lens_are = AreOfTrees-push leaves ns lens n f.len s.lens_are x.len;
  heights_are = AreOfTrees-push height ns heights n f.height s.heights_are x.height_is;
}

-- a node that is there, before or after it was added last
pub tree-kept : (ns : List Node) (n : Node) (i : ℕ) → IsSound ns → slice_get (ns ++ n ∷ []) i ≡ Some n → tree (ns ++ n ∷ []) i ≡ node_tree (trees ns) n
tree-kept ns n i s h = elim (slice_get-push ns n n i h) [
  | inl old ↦ tree-append ns (n ∷ []) i old.0 ∙ tree-at ns i n old.1 (s.children i n old.1)
  | inr new ↦ subst (λ k. tree (ns ++ n ∷ []) k ≡ node_tree (trees ns) n) (sym new.0) (tree-push ns n)
]

pub kept-grows : (old new : List Node) (n : Node) (p q : ℕ) → IsKept old new n → pair_count (n ∷ []) + p ≤ q → Grows old new p q
kept-grows old new n p q kept paid = elim kept [
  | inl same ↦ subst (λ x. Grows old x p q) (sym same) (Grows-none old p q (omega arith))
  | inr more ↦ subst (λ x. Grows old x p q) (sym more.0) (Grows-push old n p q paid)
]

-- a height of t, bounded by the bytes of t
pub record IsHeightOf (t : Tree) (h : ℕ) : Type 0 where
  pub enough : fibonacci (h + 2) ≤ leaves t
  pub limit : h ≤ height_limit (leaves t)
  pub low : h ≤ 68

-- what holds of each element holds at each index
all-at : {K : Type 0} (P : K → Type 0) (xs : List K) (j : ℕ) (n : K) → AllByRecursion P xs → slice_get xs j ≡ Some n → P n
all-at P [] j n h e = cc
all-at P (x ∷ xs) zero n h e = let s : x ≡ n = cc in subst P s h.0
all-at P (x ∷ xs) (suc j) n h e = all-at P xs j n h.1 e

-- two indices with equal elements are one, if the test finds each element equal to itself
pub distinct-at : {K : Type 0} (eq : K → K → Bool) → ((x : K) → eq x x ≡ true) → (ns : List K) → IsDistinct eq ns → (i j : ℕ) (n : K) → slice_get ns i ≡ Some n → slice_get ns j ≡ Some n → i ≡ j
unfolding IsDistinct
distinct-at eq same [] d i j n p q = cc
distinct-at eq same (x ∷ xs) d zero zero n p q = refl
distinct-at eq same (x ∷ xs) d zero (suc j) n p q = let s : x ≡ n = cc in let f : eq x n ≡ false = all-at (λ y. eq x y ≡ false) xs j n d.0 q in let t : eq x n ≡ true = subst (λ y. eq x y ≡ true) s (same x) in cc
distinct-at eq same (x ∷ xs) d (suc i) zero n p q = let s : x ≡ n = cc in let f : eq x n ≡ false = all-at (λ y. eq x y ≡ false) xs i n d.0 p in let t : eq x n ≡ true = subst (λ y. eq x y ≡ true) s (same x) in cc
distinct-at eq same (x ∷ xs) d (suc i) (suc j) n p q = ap suc (distinct-at eq same xs d.1 i j n p q)

-- a node that was added to distinct nodes wasn't among them
pub new-added : {K : Type 0} (eq : K → K → Bool) → ((x : K) → eq x x ≡ true) → (ns : List K) (n : K) → IsDistinct eq (ns ++ n ∷ []) → (i : ℕ) → slice_get ns i ≢ Some n
new-added eq same ns n d i h =
    let within : i < length ns = slice_get_within ns i n h in
    let longer : i < length (ns ++ n ∷ []) = omega (arith, length-append ns (n ∷ [])) in
    let last : length ns < length (ns ++ n ∷ []) = omega (arith, length-append ns (n ∷ [])) in
    let at : slice_get (ns ++ n ∷ []) i ≡ Some n = slice_get-get_or (ns ++ n ∷ []) i n longer ∙ ap Some (get_or_append_left ns (n ∷ []) n i within ∙ get_or_from_slice_get ns i n n h) in
    let top : slice_get (ns ++ n ∷ []) (length ns) ≡ Some n = slice_get-get_or (ns ++ n ∷ []) (length ns) n last ∙ ap Some (get_or_push ns n n (length ns) refl) in
    let e : i ≡ length ns = distinct-at eq same (ns ++ n ∷ []) d i (length ns) n at top in
    omega arith

-- the element at an index
pub at-index : (f : Tree → ℕ) (ns : List Node) (xs : List ℕ) (i x : ℕ) → AreOfTrees f ns xs → i < length ns → x ≡ get_or xs i x → x ≡ f (tree ns i)
at-index f ns xs i x a h e =
    let inside : i < length xs = omega (arith, a.as_long) in
    a.each i x (slice_get-get_or xs i x inside ∙ ap Some (sym e))

-- a height at an index, with what the tree has of bytes
pub height-at : (ns : List Node) (lens heights : List ℕ) (i h : ℕ) → IsStored ns lens heights → i < length ns → h ≡ get_or heights i h → IsHeightOf (tree ns i) h
height-at ns lens heights i h s within e =
    let is : h ≡ height (tree ns i) = at-index height ns heights i h s.heights_are within e in
    let bal : IsBalanced (tree ns i) = s.sound.balanced i within in
    record {
      enough = subst (λ g. fibonacci (g + 2) ≤ leaves (tree ns i)) (sym is) (height-enough (tree ns i) bal);
      limit = omega (arith, is, height-by_leaves (tree ns i) bal);
      low = omega (arith, is, height-most (tree ns i) bal (s.sound.short i within));
    }

-- the length of a pair of blocks is in the range of a number of 64 bits
pub shifted : (h : ℕ) → h < 48 → (1 * 2 ^ (h + 1)) % 2 ^ 64 ≡ 2 ^ (h + 1)
shifted h low =
    let few : 2 ^ (h + 1) ≤ 2 ^ 48 = pow_mono {i = h + 1} {j = 48} (omega (arith, low)) in
    ap (λ n. n % 2 ^ 64) (omega arith) ∙ mod-eq_of_lt (omega (arith, few))

-- two blocks of one height may follow as a pair, and what is known of it
pub block-next : (ns : List Node) (h : ℕ) (l r : NodeId) (f : Facts) → IsSound ns → IsBlockOf ns h l → IsBlockOf ns h r → h < 48 → f.len ≡ 2 ^ (h + 1) → f.height ≡ h + 1 → IsNext ns (Pair l r) f
unfolding tree
block-next ns h l r f sound left right low len high =
    let twice : 2 ^ (h + 1) ≡ 2 ^ h + 2 ^ h = omega (arith, pow-add 2 h 1) in
    record {
      below = (left.live, right.live);
      byte = tt;
      balanced = (near, sound.balanced l.index left.live, sound.balanced r.index right.live);
      len = omega (arith, len, twice, left.long, right.long);
      height_is = omega (arith, high, left.high, right.high);
      short = omega (arith, twice, left.long, right.long, few);
    }
  where
    near : IsNear (height (tree ns l.index)) (height (tree ns r.index))
    near = rw (left.high, right.high) (omega arith, omega arith)

    few : 2 ^ (h + 1) ≤ 2 ^ 48
    few = pow_mono {i = h + 1} {j = 48} (omega (arith, low))

-- the value of a node in a list of values
pub at-or : (f : Tree → ℕ) (ns : List Node) (xs : List ℕ) (i : ℕ) → AreOfTrees f ns xs → i < length ns → get_or xs i 0 ≡ f (tree ns i)
at-or f ns xs i a h =
    let inside : i < length xs = omega (arith, a.as_long) in
    a.each i (get_or xs i 0) (slice_get-get_or xs i 0 inside)

-- two nodes that may be a pair: it may follow, and what is known of it
pub pair-next : (ns : List Node) (lens heights : List ℕ) (l r : NodeId) (f : Facts) → IsStored ns lens heights → l.index < length ns → r.index < length ns
    → IsNear (height (tree ns l.index)) (height (tree ns r.index)) → leaves (tree ns l.index) + leaves (tree ns r.index) ≤ 2 ^ 48
    → f.len ≡ get_or lens l.index 0 + get_or lens r.index 0 → f.height ≡ max (get_or heights l.index 0) (get_or heights r.index 0) + 1 → IsNext ns (Pair l r) f
unfolding tree
pair-next ns lens heights l r f s left right near short len high = record {
  below = (left, right);
  byte = tt;
  balanced = (near, s.sound.balanced l.index left, s.sound.balanced r.index right);
  len = len ∙ (λ i. at-or leaves ns lens l.index s.lens_are left i + at-or leaves ns lens r.index s.lens_are right i);
  height_is = high ∙ (λ i. max (at-or height ns heights l.index s.heights_are left i) (at-or height ns heights r.index s.heights_are right i) + 1);
  short = short;
}

-- each height is small
pub low-at : (ns : List Node) (lens heights : List ℕ) (i : ℕ) → IsStored ns lens heights → i < length ns → get_or heights i 0 < 255
low-at ns lens heights i s within =
    let most : height (tree ns i) ≤ 68 = height-most (tree ns i) (s.sound.balanced i within) (s.sound.short i within) in
    omega (arith, at-or height ns heights i s.heights_are within, most)
