-- Laws of trees, of joins and of the loader's shape.
use Rattle.std.specs.Prelude.{◌≡◌, ℕ, ◌+◌, ◌≤◌, ◌<◌, List, [], ◌∷◌, length, Some}
use Rattle.span_types.specs.Fibonacci.{fibonacci, height_limit}
use Rattle.slp_model.specs.Tree.{Tree, Leaf, Fork, text, leaves, height, IsNear, IsBalanced, root_text, root_height}
use Rattle.slp_model.specs.Join.{join, settle_left, settle_right, IsJoined}
use Rattle.slp_model.specs.Shape.{shape}

-- a balanced tree of height h has at least F(h+2) bytes, and so one of n bytes has height at most H(n)
pub record TreeLaw : Type 0 where
  pub long : (t : Tree) → length (text t) ≡ leaves t
  pub enough : (t : Tree) → IsBalanced t → fibonacci (height t + 2) ≤ leaves t
  pub limit : (t : Tree) → IsBalanced t → height t ≤ height_limit (leaves t)

-- trees whose heights differ by at most one make a pair; otherwise the lower one is joined to the facing child of the
-- higher one
pub record JoinCases : Type 0 where
  pub near : (a b : Tree) → IsNear (height a) (height b) → join a b ≡ Fork a b
  pub left : (l c b : Tree) → height b + 1 < height (Fork l c) → join (Fork l c) b ≡ settle_right l (join c b)
  pub right : (a c r : Tree) → height a + 1 < height (Fork c r) → join a (Fork c r) ≡ settle_left (join a c) r

-- each join of balanced trees is balanced, with their texts one after the other
abbrev pub JoinLaw : Type 0
JoinLaw = (a b : Tree) → IsBalanced a → IsBalanced b → IsJoined a b (join a b)

-- the loader's tree has the bytes, and it is balanced
pub record ShapeLaw : Type 0 where
  pub text : (s : List ℕ) → root_text (shape s) ≡ s
  pub balanced : (s : List ℕ) (t : Tree) → shape s ≡ Some t → IsBalanced t
  pub limit : (s : List ℕ) → root_height (shape s) ≤ height_limit (length s)

-- the trees of `abc` and of `abcde`, and the height of that of `abracadabra`
pub record ShapeRows : Type 0 where
  pub abc : shape (97 ∷ 98 ∷ 99 ∷ []) ≡ Some (Fork (Fork (Leaf 97) (Leaf 98)) (Leaf 99))
  pub abcde : shape (97 ∷ 98 ∷ 99 ∷ 100 ∷ 101 ∷ []) ≡ Some (Fork (Fork (Leaf 97) (Leaf 98)) (Fork (Fork (Leaf 99) (Leaf 100)) (Leaf 101)))
  pub abracadabra : root_height (shape (97 ∷ 98 ∷ 114 ∷ 97 ∷ 99 ∷ 97 ∷ 100 ∷ 97 ∷ 98 ∷ 114 ∷ 97 ∷ [])) ≡ 4
