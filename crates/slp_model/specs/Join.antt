-- How two trees are joined.
use Rattle.std.specs.Prelude.{◌≡◌, ◌++◌, max, ℕ, ◌+◌, ◌-◌, ◌*◌, ◌≤◌, Bool, ◌&&◌, nat_le, nat_lt, if◌then◌else◌, Option, Some, None}
use Rattle.slp_model.specs.Tree.{Tree, Leaf, Fork, height, text, IsBalanced, root_text, root_height}

-- two heights differ by at most 1
abbrev pub is_near : ℕ → ℕ → Bool
is_near g h = nat_le g (h + 1) && nat_le h (g + 1)

-- l joined to the pair of u and v by a rotation; u is split into its children if it is higher than v
abbrev pub lift_left : Tree → Tree → Tree → Tree
lift_left l (Leaf x) v = Fork (Fork l (Leaf x)) v
lift_left l (Fork u1 u2) v = if nat_le (height (Fork u1 u2)) (height v) then Fork (Fork l (Fork u1 u2)) v else Fork (Fork l u1) (Fork u2 v)

-- l and t, which is at most two higher than l
abbrev pub settle_right : Tree → Tree → Tree
settle_right l (Leaf x) = Fork l (Leaf x)
settle_right l (Fork u v) = if nat_le (height (Fork u v)) (height l + 1) then Fork l (Fork u v) else lift_left l u v

abbrev pub lift_right : Tree → Tree → Tree → Tree
lift_right u (Leaf x) r = Fork u (Fork (Leaf x) r)
lift_right u (Fork v1 v2) r = if nat_le (height (Fork v1 v2)) (height u) then Fork u (Fork (Fork v1 v2) r) else Fork (Fork u v1) (Fork v2 r)

-- t, which is at most two higher than r, and r
abbrev pub settle_left : Tree → Tree → Tree
settle_left (Leaf x) r = Fork (Leaf x) r
settle_left (Fork u v) r = if nat_le (height (Fork u v)) (height r + 1) then Fork (Fork u v) r else lift_right u v r

-- the join of a with each tree, where `down` joins a's right child to a tree and settles it
abbrev pub join_with : Tree → (Tree → Tree) → Tree → Tree
join_with a down (Leaf y) = if is_near (height a) 0 then Fork a (Leaf y) else down (Leaf y)
join_with a down (Fork c r) =
    if is_near (height a) (height (Fork c r)) then Fork a (Fork c r)
    else if nat_lt (height (Fork c r)) (height a) then down (Fork c r)
    else settle_left (join_with a down c) r

-- trees whose heights differ by at most one make a pair; otherwise the lower one is joined to the facing child of the
-- higher one, which is settled
unfoldable pub join : Tree → Tree → Tree
join (Leaf x) b = join_with (Leaf x) (λ t. Fork (Leaf x) t) b
join (Fork l c) b = join_with (Fork l c) (λ t. settle_right l (join c t)) b

-- the join of two roots
abbrev pub join_roots : Option Tree → Option Tree → Option Tree
join_roots None b = b
join_roots (Some a) None = Some a
join_roots (Some a) (Some b) = Some (join a b)

-- the maximum number of pairs that are made for trees of heights g and h
abbrev pub join_cost : ℕ → ℕ → ℕ
join_cost g h = 3 * ((g - h) + (h - g)) + 1

-- the same for two roots: none if a side is empty
abbrev pub root_cost : Option Tree → Option Tree → ℕ
root_cost None b = 0
root_cost (Some a) None = 0
root_cost (Some a) (Some b) = join_cost (height a) (height b)

-- s is a balanced tree for the trees l and t side by side, no lower than either and at most one higher
pub record IsJoined (l t s : Tree) : Type 0 where
  pub joined : text s ≡ text l ++ text t
  pub balanced : IsBalanced s
  pub left : height l ≤ height s
  pub right : height t ≤ height s
  pub most : height s ≤ max (height l) (height t) + 1

-- the text of t is that of a followed by that of b, and t is as high as the higher one or one higher
pub record IsJoinedRoot (a b t : Option Tree) : Type 0 where
  pub joined : root_text t ≡ root_text a ++ root_text b
  pub low : max (root_height a) (root_height b) ≤ root_height t
  pub high : root_height t ≤ max (root_height a) (root_height b) + 1
