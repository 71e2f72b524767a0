-- Laws of the join.
use Rattle.std.proofs.Common.{◌≡◌, ℕ, suc, ◌+◌, ◌<◌, ◌≤◌, max, ◌⊎◌, inl, inr, [], ◌∷◌, ◌++◌, length, refl, ap, sym, ◌∙◌, arith, append_assoc, append-nil, length-append, Option, Some, None, Bool, true, false, ◌&&◌, if◌then◌else◌, leb, ltb}
use Rattle.std.proofs.lemmas.Bool.{cases_lt, leb-true, leb-false, le-leb, lt-leb}
use Rattle.slp_model.specs.Tree.{Tree, Leaf, Fork, text, leaves, height, IsBalanced}
use Rattle.slp_model.proofs.TreeLemmas.{length-text}
use Rattle.slp_model.specs.Join.{IsJoined, IsJoinedRoot, join, join_with, is_near, settle_right, settle_left, lift_left, lift_right}

-- what holds of either branch holds of the choice
choose : (P : Tree → Type 0) (m n : ℕ) (s t : Tree) → (m ≤ n → P s) → (n < m → P t) → P (if leb m n then s else t)
choose P m n s t first second = by (leb m n) refl
  where
    by : (b : Bool) → leb m n ≡ b → P (if b then s else t)
    by true e = first (leb-true m n e)
    by false e = second (leb-false m n e)

pub near-joined : (a b : Tree) → IsBalanced a → IsBalanced b → height a ≤ height b + 1 → height b ≤ height a + 1 → IsJoined a b (Fork a b)
near-joined a b p q m n = record {
  joined = refl;
  balanced = ((m, n), p, q);
  left = omega arith;
  right = omega arith;
  most = omega arith;
}

-- as IsJoined, with an exact height where t is at most one higher than l
pub record IsSettled (l t s : Tree) : Type 0 where
  pub joined : text s ≡ text l ++ text t
  pub balanced : IsBalanced s
  pub low : height t ≤ height l + 1 → height s ≡ max (height l) (height t) + 1
  pub high : height t ≡ height l + 2 → (height t ≤ height s) × (height s ≤ height t + 1)

-- the mirror image
pub record IsSettledLeft (t r s : Tree) : Type 0 where
  pub joined : text s ≡ text t ++ text r
  pub balanced : IsBalanced s
  pub low : height t ≤ height r + 1 → height s ≡ max (height t) (height r) + 1
  pub high : height t ≡ height r + 2 → (height t ≤ height s) × (height s ≤ height t + 1)

lift_left-settled : (l u v : Tree) → IsBalanced l → IsBalanced (Fork u v) → height (Fork u v) ≡ height l + 2 → IsSettled l (Fork u v) (lift_left l u v)
lift_left-settled l (Leaf x) v p q e = record {
  joined = append_assoc (text l) (x ∷ []) (text v);
  balanced = ((omega arith, omega arith), ((omega arith, omega arith), p, tt), q.2);
  low = λ h. absurd (omega arith);
  high = λ h. (omega arith, omega arith);
}
lift_left-settled l (Fork u1 u2) v p q e = choose (IsSettled l (Fork (Fork u1 u2) v)) (height (Fork u1 u2)) (height v) (Fork (Fork l (Fork u1 u2)) v) (Fork (Fork l u1) (Fork u2 v))
    (λ low. record {
      joined = append_assoc (text l) (text u1 ++ text u2) (text v);
      balanced = ((omega arith, omega arith), ((omega arith, omega arith), p, q.1), q.2);
      low = λ h. absurd (omega arith);
      high = λ h. (omega arith, omega arith);
    })
    (λ high. record {
      joined = simp append_assoc;
      balanced = ((omega arith, omega arith), ((omega arith, omega arith), p, q.1.1), ((omega arith, omega arith), q.1.2, q.2));
      low = λ h. absurd (omega arith);
      high = λ h. (omega arith, omega arith);
    })

lift_right-settled : (u v r : Tree) → IsBalanced (Fork u v) → IsBalanced r → height (Fork u v) ≡ height r + 2 → IsSettledLeft (Fork u v) r (lift_right u v r)
lift_right-settled u (Leaf x) r p q e = record {
  joined = sym (append_assoc (text u) (x ∷ []) (text r));
  balanced = ((omega arith, omega arith), p.1, ((omega arith, omega arith), tt, q));
  low = λ h. absurd (omega arith);
  high = λ h. (omega arith, omega arith);
}
lift_right-settled u (Fork v1 v2) r p q e = choose (IsSettledLeft (Fork u (Fork v1 v2)) r) (height (Fork v1 v2)) (height u) (Fork u (Fork (Fork v1 v2) r)) (Fork (Fork u v1) (Fork v2 r))
    (λ low. record {
      joined = sym (append_assoc (text u) (text v1 ++ text v2) (text r));
      balanced = ((omega arith, omega arith), p.1, ((omega arith, omega arith), p.2, q));
      low = λ h. absurd (omega arith);
      high = λ h. (omega arith, omega arith);
    })
    (λ high. record {
      joined = simp append_assoc;
      balanced = ((omega arith, omega arith), ((omega arith, omega arith), p.1, p.2.1), ((omega arith, omega arith), p.2.2, q));
      low = λ h. absurd (omega arith);
      high = λ h. (omega arith, omega arith);
    })

pub settle_right-settled : (l t : Tree) → IsBalanced l → IsBalanced t → height l ≤ height t + 1 → height t ≤ height l + 2 → IsSettled l t (settle_right l t)
settle_right-settled l (Leaf x) p q m n = record {
  joined = refl;
  balanced = ((omega arith, omega arith), p, tt);
  low = λ h. refl;
  high = λ h. absurd (omega arith);
}
settle_right-settled l (Fork u v) p q m n = choose (IsSettled l (Fork u v)) (height (Fork u v)) (height l + 1) (Fork l (Fork u v)) (lift_left l u v)
    (λ low. record { joined = refl; balanced = ((omega arith, omega arith), p, q); low = λ h. refl; high = λ h. absurd (omega arith) })
    (λ high. lift_left-settled l u v p q (omega arith))

pub settle_left-settled : (t r : Tree) → IsBalanced t → IsBalanced r → height r ≤ height t + 1 → height t ≤ height r + 2 → IsSettledLeft t r (settle_left t r)
settle_left-settled (Leaf x) r p q m n = record {
  joined = refl;
  balanced = ((omega arith, omega arith), tt, q);
  low = λ h. refl;
  high = λ h. absurd (omega arith);
}
settle_left-settled (Fork u v) r p q m n = choose (IsSettledLeft (Fork u v) r) (height (Fork u v)) (height r + 1) (Fork (Fork u v) r) (lift_right u v r)
    (λ low. record { joined = refl; balanced = ((omega arith, omega arith), p, q); low = λ h. refl; high = λ h. absurd (omega arith) })
    (λ high. lift_right-settled u v r p q (omega arith))

-- the three cases of the join
near-true : (g h : ℕ) → g ≤ h + 1 → h ≤ g + 1 → is_near g h ≡ true
near-true g h m n = rw (le-leb g (h + 1) m, le-leb h (g + 1) n)

near-low : (g h : ℕ) → h + 1 < g → is_near g h ≡ false
near-low g h m = rw (lt-leb g (h + 1) m)

near-high : (g h : ℕ) → g + 1 < h → is_near g h ≡ false
near-high g h m = and-false (leb g (h + 1)) (leb h (g + 1)) (lt-leb h (g + 1) m)
  where
    and-false : (x y : Bool) → y ≡ false → (x && y) ≡ false
    and-false true y e = e
    and-false false y e = refl

pub join_with-near : (a : Tree) (down : Tree → Tree) (b : Tree) → height a ≤ height b + 1 → height b ≤ height a + 1 → join_with a down b ≡ Fork a b
join_with-near a down (Leaf y) m n = rw (near-true (height a) 0 m n)
join_with-near a down (Fork c r) m n = rw (near-true (height a) (height (Fork c r)) m n)

pub join_with-low : (a : Tree) (down : Tree → Tree) (b : Tree) → height b + 1 < height a → join_with a down b ≡ down b
join_with-low a down (Leaf y) m = rw (near-low (height a) 0 m)
join_with-low a down (Fork c r) m =
    let e : ltb (height (Fork c r)) (height a) ≡ true = le-leb (suc (height (Fork c r))) (height a) (omega arith) in
    rw (near-low (height a) (height (Fork c r)) m, e)

pub join_with-high : (a : Tree) (down : Tree → Tree) (c r : Tree) → height a + 1 < height (Fork c r) → join_with a down (Fork c r) ≡ settle_left (join_with a down c) r
join_with-high a down c r m =
    let e : ltb (height (Fork c r)) (height a) ≡ false = lt-leb (suc (height (Fork c r))) (height a) (omega arith) in
    rw (near-high (height a) (height (Fork c r)) m, e)

pub join-near : (a b : Tree) → height a ≤ height b + 1 → height b ≤ height a + 1 → join a b ≡ Fork a b
unfolding join
join-near (Leaf x) b m n = join_with-near (Leaf x) (λ t. Fork (Leaf x) t) b m n
join-near (Fork l c) b m n = join_with-near (Fork l c) (λ t. settle_right l (join c t)) b m n

pub join-low : (l c b : Tree) → height b + 1 < height (Fork l c) → join (Fork l c) b ≡ settle_right l (join c b)
unfolding join
join-low l c b m = join_with-low (Fork l c) (λ t. settle_right l (join c t)) b m

pub join-high : (a c r : Tree) → height a + 1 < height (Fork c r) → join a (Fork c r) ≡ settle_left (join a c) r
unfolding join
join-high (Leaf x) c r m = join_with-high (Leaf x) (λ t. Fork (Leaf x) t) c r m
join-high (Fork l a) c r m = join_with-high (Fork l a) (λ t. settle_right l (join a t)) c r m

-- a pair with its right part replaced by a tree that is at most one higher
settled-joined : (l c b t : Tree) → IsBalanced (Fork l c) → height b ≤ height c → IsJoined c b t → IsJoined (Fork l c) b (settle_right l t)
settled-joined l c b t p m h =
    let s : IsSettled l t (settle_right l t) = settle_right-settled l t p.1 h.balanced (omega (arith, h.left, h.most, p.0)) (omega (arith, h.left, h.most, p.0)) in
    let near : (height t ≤ height l + 1) ⊎ (height t ≡ height l + 2) = at_most_two (height t) (height l) (omega (arith, h.left, h.most, p.0)) in
    record {
      joined = s.joined ∙ (ap (λ x. text l ++ x) h.joined ∙ sym (append_assoc (text l) (text c) (text b)));
      balanced = s.balanced;
      left = elim near [ inl low ↦ omega (arith, s.low low, h.left, h.most, p.0) | inr high ↦ omega (arith, s.high high, h.left, h.most, p.0) ];
      right = elim near [ inl low ↦ omega (arith, s.low low, h.left, h.right, h.most, p.0) | inr high ↦ omega (arith, s.high high, h.left, h.right, h.most, p.0) ];
      most = elim near [ inl low ↦ omega (arith, s.low low, h.left, h.most, p.0) | inr high ↦ omega (arith, s.high high, h.left, h.most, p.0) ];
    }
  where
    at_most_two : (m n : ℕ) → m ≤ n + 2 → (m ≤ n + 1) ⊎ (m ≡ n + 2)
    at_most_two m n h = elim (cases_lt m (n + 2)) [ inl lt ↦ inl (omega arith) | inr ge ↦ inr (omega arith) ]

settled-joined_left : (a c r t : Tree) → IsBalanced (Fork c r) → height a ≤ height c → IsJoined a c t → IsJoined a (Fork c r) (settle_left t r)
settled-joined_left a c r t p m h =
    let s : IsSettledLeft t r (settle_left t r) = settle_left-settled t r h.balanced p.2 (omega (arith, h.right, h.most, p.0)) (omega (arith, h.right, h.most, p.0)) in
    let near : (height t ≤ height r + 1) ⊎ (height t ≡ height r + 2) = at_most_two (height t) (height r) (omega (arith, h.right, h.most, p.0)) in
    record {
      joined = s.joined ∙ (ap (λ x. x ++ text r) h.joined ∙ append_assoc (text a) (text c) (text r));
      balanced = s.balanced;
      left = elim near [ inl low ↦ omega (arith, s.low low, h.left, h.right, h.most, p.0) | inr high ↦ omega (arith, s.high high, h.left, h.right, h.most, p.0) ];
      right = elim near [ inl low ↦ omega (arith, s.low low, h.right, h.most, p.0) | inr high ↦ omega (arith, s.high high, h.right, h.most, p.0) ];
      most = elim near [ inl low ↦ omega (arith, s.low low, h.right, h.most, p.0) | inr high ↦ omega (arith, s.high high, h.right, h.most, p.0) ];
    }
  where
    at_most_two : (m n : ℕ) → m ≤ n + 2 → (m ≤ n + 1) ⊎ (m ≡ n + 2)
    at_most_two m n h = elim (cases_lt m (n + 2)) [ inl lt ↦ inl (omega arith) | inr ge ↦ inr (omega arith) ]

-- near, or the first higher, or the second higher
heights_case : (g h : ℕ) → ((g ≤ h + 1) × (h ≤ g + 1)) ⊎ ((h + 1 < g) ⊎ (g + 1 < h))
heights_case g h = elim (cases_lt (h + 1) g) [ inl low ↦ inr (inl low) | inr m ↦ elim (cases_lt (g + 1) h) [ inl high ↦ inr (inr high) | inr n ↦ inl (m, n) ] ]

-- a balanced tree that is higher by two has a right child at least as high
right-high : (l c b : Tree) → IsBalanced (Fork l c) → height b + 1 < height (Fork l c) → height b ≤ height c
right-high l c b p m = omega (arith, p.0)

left-high : (a c r : Tree) → IsBalanced (Fork c r) → height a + 1 < height (Fork c r) → height a ≤ height c
left-high a c r p m = omega (arith, p.0)

-- the join of balanced trees is balanced, has their texts in a row, and is at most one higher than the higher one
pub join-joined : (a b : Tree) → IsBalanced a → IsBalanced b → IsJoined a b (join a b)
join-joined (Leaf x) b p q = go b q
  where
    go : (b : Tree) → IsBalanced b → IsJoined (Leaf x) b (join (Leaf x) b)
    go (Leaf y) q = rw (join-near (Leaf x) (Leaf y) (omega arith) (omega arith)) (near-joined (Leaf x) (Leaf y) p q (omega arith) (omega arith))
    go (Fork c r) q = elim (heights_case 0 (height (Fork c r))) [
      | inl near ↦ rw (join-near (Leaf x) (Fork c r) near.0 near.1) (near-joined (Leaf x) (Fork c r) p q near.0 near.1)
      | inr far ↦ elim far [
        | inl low ↦ absurd (omega arith)
        | inr high ↦ rw (join-high (Leaf x) c r high) (settled-joined_left (Leaf x) c r (join (Leaf x) c) q (left-high (Leaf x) c r q high) (go c q.1))
      ]
    ]
join-joined (Fork l c) b p q = go (λ b q. join-joined c b p.2 q) b q
  where
    go : ((b : Tree) → IsBalanced b → IsJoined c b (join c b)) → (b : Tree) → IsBalanced b → IsJoined (Fork l c) b (join (Fork l c) b)
    go rec (Leaf y) q = elim (heights_case (height (Fork l c)) 0) [
      | inl near ↦ rw (join-near (Fork l c) (Leaf y) near.0 near.1) (near-joined (Fork l c) (Leaf y) p q near.0 near.1)
      | inr far ↦ elim far [
        | inl low ↦ rw (join-low l c (Leaf y) low) (settled-joined l c (Leaf y) (join c (Leaf y)) p (right-high l c (Leaf y) p low) (rec (Leaf y) q))
        | inr high ↦ absurd (omega arith)
      ]
    ]
    go rec (Fork d r) q = elim (heights_case (height (Fork l c)) (height (Fork d r))) [
      | inl near ↦ rw (join-near (Fork l c) (Fork d r) near.0 near.1) (near-joined (Fork l c) (Fork d r) p q near.0 near.1)
      | inr far ↦ elim far [
        | inl low ↦ rw (join-low l c (Fork d r) low) (settled-joined l c (Fork d r) (join c (Fork d r)) p (right-high l c (Fork d r) p low) (rec (Fork d r) q))
        | inr high ↦ rw (join-high (Fork l c) d r high) (settled-joined_left (Fork l c) d r (join (Fork l c) d) q (left-high (Fork l c) d r q high) (go rec d q.1))
      ]
    ]

-- what the code that joins needs of each choice
pub settle_right-low : (l t : Tree) → height t ≤ height l + 1 → settle_right l t ≡ Fork l t
settle_right-low l (Leaf x) m = refl
settle_right-low l (Fork u v) m = rw (le-leb (height (Fork u v)) (height l + 1) m)

pub settle_right-high : (l u v : Tree) → height l + 1 < height (Fork u v) → settle_right l (Fork u v) ≡ lift_left l u v
settle_right-high l u v m = rw (lt-leb (height (Fork u v)) (height l + 1) m)

pub settle_left-low : (t r : Tree) → height t ≤ height r + 1 → settle_left t r ≡ Fork t r
settle_left-low (Leaf x) r m = refl
settle_left-low (Fork u v) r m = rw (le-leb (height (Fork u v)) (height r + 1) m)

pub settle_left-high : (u v r : Tree) → height r + 1 < height (Fork u v) → settle_left (Fork u v) r ≡ lift_right u v r
settle_left-high u v r m = rw (lt-leb (height (Fork u v)) (height r + 1) m)

pub lift_left-low : (l u v : Tree) → height u ≤ height v → lift_left l u v ≡ Fork (Fork l u) v
lift_left-low l (Leaf x) v m = refl
lift_left-low l (Fork u1 u2) v m = rw (le-leb (height (Fork u1 u2)) (height v) m)

pub lift_left-high : (l u1 u2 v : Tree) → height v < height (Fork u1 u2) → lift_left l (Fork u1 u2) v ≡ Fork (Fork l u1) (Fork u2 v)
lift_left-high l u1 u2 v m = rw (lt-leb (height (Fork u1 u2)) (height v) m)

pub lift_right-low : (u v r : Tree) → height v ≤ height u → lift_right u v r ≡ Fork u (Fork v r)
lift_right-low u (Leaf x) r m = refl
lift_right-low u (Fork v1 v2) r m = rw (le-leb (height (Fork v1 v2)) (height u) m)

pub lift_right-high : (u v1 v2 r : Tree) → height u < height (Fork v1 v2) → lift_right u (Fork v1 v2) r ≡ Fork (Fork u v1) (Fork v2 r)
lift_right-high u v1 v2 r m = rw (lt-leb (height (Fork v1 v2)) (height u) m)

-- the leaves of a join
pub leaves-joined : (a b t : Tree) → IsJoined a b t → leaves t ≡ leaves a + leaves b
leaves-joined a b t h =
    let e : length (text t) ≡ length (text a ++ text b) = ap length h.joined in
    omega (arith, length-text a, length-text b, length-text t, e, length-append (text a) (text b))

-- a join that descends to the right child c of the pair of l and c
pub record IsStepRight (l c b : Tree) : Type 0 where
  pub is : join (Fork l c) b ≡ settle_right l (join c b)
  pub low : height l ≤ height (join c b) + 1
  pub high : height (join c b) ≤ height l + 2
  pub leaves_is : leaves (join c b) ≡ leaves c + leaves b

pub step_right : (l c b : Tree) → IsBalanced (Fork l c) → IsBalanced b → height b + 1 < height (Fork l c) → IsStepRight l c b
step_right l c b p q m =
    let j : IsJoined c b (join c b) = join-joined c b p.2 q in
    record {
      is = join-low l c b m;
      low = omega (arith, j.left, j.most, p.0);
      high = omega (arith, j.left, j.most, p.0);
      leaves_is = leaves-joined c b (join c b) j;
    }

-- a join that descends to the left child c of the pair of c and r
pub record IsStepLeft (a c r : Tree) : Type 0 where
  pub is : join a (Fork c r) ≡ settle_left (join a c) r
  pub low : height r ≤ height (join a c) + 1
  pub high : height (join a c) ≤ height r + 2
  pub leaves_is : leaves (join a c) ≡ leaves a + leaves c

pub step_left : (a c r : Tree) → IsBalanced a → IsBalanced (Fork c r) → height a + 1 < height (Fork c r) → IsStepLeft a c r
step_left a c r p q m =
    let j : IsJoined a c (join a c) = join-joined a c p q.1 in
    record {
      is = join-high a c r m;
      low = omega (arith, j.right, j.most, q.0);
      high = omega (arith, j.right, j.most, q.0);
      leaves_is = leaves-joined a c (join a c) j;
    }

-- the same of roots
pub joined_roots : (a b t : Tree) → IsJoined a b t → IsJoinedRoot (Some a) (Some b) (Some t)
joined_roots a b t h = record { joined = h.joined; low = omega (arith, h.left, h.right); high = h.most }

pub joined_none : (b : Option Tree) → IsJoinedRoot None b b
joined_none b = record { joined = refl; low = omega arith; high = omega arith }

pub joined_some : (a : Tree) → IsJoinedRoot (Some a) None (Some a)
joined_some a = record { joined = sym (append-nil (text a)); low = omega arith; high = omega arith }
