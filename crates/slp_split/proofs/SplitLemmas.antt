-- Laws of a cut.
use Rattle.std.proofs.Common.{◌≡◌, ℕ, zero, suc, ◌+◌, ◌*◌, ◌-◌, ◌<◌, ◌≤◌, max, ◌⊎◌, inl, inr, List, [], ◌∷◌, ◌++◌, length, take, drop, Option, Some, None, refl, ap, sym, subst, ◌∙◌, arith, length-append, length-drop}
use Rattle.std.proofs.lemmas.List.{take-append-le, drop-append-le, length-take-le, take_all, drop_all}
use Rattle.std.proofs.Math.Seq.{take-append-add, drop-append-add, take-length, drop-length}
use Rattle.slp_model.specs.Tree.{Tree, Leaf, Fork, text, leaves, height, IsBalanced, root_text, root_leaves, root_height}
use Rattle.slp_model.specs.Join.{IsJoinedRoot, root_cost, join_cost}
use Rattle.slp_split.specs.Split.{IsSplit, split_cost}
use Rattle.slp_model.proofs.TreeLemmas.{length-text, length-root_text}

-- how long the two parts are
pub split-leaves : (t : Tree) (k : ℕ) (x y : Option Tree) → k ≤ leaves t → IsSplit t k x y → (root_leaves x ≡ k) × (root_leaves y + k ≡ leaves t)
split-leaves t k x y h s =
    let a : length (root_text x) ≡ length (take k (text t)) = ap length s.before in
    let b : length (root_text y) ≡ length (drop k (text t)) = ap length s.after in
    let n : length (text t) ≡ leaves t = length-text t in
    let c : length (take k (text t)) ≡ k = length-take-le k (text t) (omega arith) in
    (omega (arith, length-root_text x), omega (arith, length-root_text y, length-drop k (text t)))

-- a tree of two leaves or more is no byte
pub high-from-leaves : (t : Tree) → 1 < leaves t → 0 < height t
high-from-leaves (Leaf b) h = absurd (omega arith)
high-from-leaves (Fork l r) h = omega arith

pub split-none : (t : Tree) → IsSplit t 0 None (Some t)
split-none t = record { before = refl; after = refl; low = omega arith; high = omega arith }

pub split-whole : (t : Tree) → IsSplit t (leaves t) (Some t) None
split-whole t = record {
  before = sym (subst (λ n. take n (text t) ≡ text t) (length-text t) (take-length (text t)));
  after = sym (subst (λ n. drop n (text t) ≡ []) (length-text t) (drop-length (text t)));
  low = omega arith;
  high = omega arith;
}

-- a cut of the left child
pub split-left : (l r : Tree) (k : ℕ) (x y z : Option Tree) → k ≤ leaves l → IsSplit l k x y → IsJoinedRoot y (Some r) z → IsSplit (Fork l r) k x z
split-left l r k x y z h s j =
    let n : k ≤ length (text l) = omega (arith, length-text l) in
    record {
      before = s.before ∙ sym (take-append-le k (text l) (text r) n);
      after = j.joined ∙ (ap (λ w. w ++ text r) s.after ∙ sym (drop-append-le k (text l) (text r) n));
      low = omega (arith, s.low);
      high = omega (arith, s.high, j.high);
    }

pub split-left-paid : (l r : Tree) (y z : Option Tree) → IsBalanced (Fork l r) → root_height y ≤ height l → IsJoinedRoot y (Some r) z
    → root_cost y (Some r) + (4 * height l + 3 * root_height y) ≤ 4 * height (Fork l r) + 3 * root_height z
split-left-paid l r None z p h j = omega (arith, j.low, p.0)
split-left-paid l r (Some y) z p h j = omega (arith, j.low, p.0)

-- a cut of the right child
pub split-right : (l r : Tree) (k : ℕ) (x y z : Option Tree) → leaves l ≤ k → IsSplit r (k - leaves l) x y → IsJoinedRoot (Some l) x z → IsSplit (Fork l r) k z y
split-right l r k x y z h s j =
    let e : length (text l) + (k - leaves l) ≡ k = omega (arith, length-text l) in
    let t : take k (text l ++ text r) ≡ text l ++ take (k - leaves l) (text r) = subst (λ n. take n (text l ++ text r) ≡ text l ++ take (k - leaves l) (text r)) e (take-append-add (text l) (text r) (k - leaves l)) in
    let d : drop k (text l ++ text r) ≡ drop (k - leaves l) (text r) = subst (λ n. drop n (text l ++ text r) ≡ drop (k - leaves l) (text r)) e (drop-append-add (text l) (text r) (k - leaves l)) in
    record {
      before = j.joined ∙ (ap (λ w. text l ++ w) s.before ∙ sym t);
      after = s.after ∙ sym d;
      low = omega (arith, s.low, j.high);
      high = omega (arith, s.high);
    }

pub split-right-paid : (l r : Tree) (x z : Option Tree) → IsBalanced (Fork l r) → root_height x ≤ height r → IsJoinedRoot (Some l) x z
    → root_cost (Some l) x + (4 * height r + 3 * root_height x) ≤ 4 * height (Fork l r) + 3 * root_height z
split-right-paid l r None z p h j = omega (arith, j.low, p.0)
split-right-paid l r (Some x) z p h j = omega (arith, j.low, p.0)

-- if the join is out of memory
pub split-left-most : (l r : Tree) (x y : Option Tree) → IsBalanced (Fork l r) → root_height x ≤ height l → root_height y ≤ height l
    → root_cost y (Some r) + split_cost (height l) x y ≤ 10 * height (Fork l r)
split-left-most l r x None p g h = omega (arith, p.0)
split-left-most l r x (Some y) p g h = omega (arith, p.0)

pub split-right-most : (l r : Tree) (x y : Option Tree) → IsBalanced (Fork l r) → root_height x ≤ height r → root_height y ≤ height r
    → root_cost (Some l) x + split_cost (height r) x y ≤ 10 * height (Fork l r)
split-right-most l r None y p g h = omega (arith, p.0)
split-right-most l r (Some x) y p g h = omega (arith, p.0)
