-- Two nodes with n copies of a text and with one copy more, made of two with half as many.
use Rattle.std.proofs.Common.{◌≡◌, ℕ, zero, suc, ◌+◌, ◌*◌, ◌-◌, ◌/◌, ◌^◌, ◌<◌, ◌≤◌, List, ◌++◌, length, ap, sym, subst, ◌∙◌, arith}
use Rattle.slp_model.specs.declared.Node.{Node}
use Rattle.slp_model.specs.Tree.{Tree, Fork, text, leaves, height, IsNear}
use Rattle.slp_model.specs.Nodes.{tree, Grows}
use Rattle.slp_model.proofs.NodesLemmas.{tree-grows, Grows-length}
use Rattle.slp_rebalance.specs.Copies.{copies, digits_in, run_cost}
use Rattle.slp_rebalance.specs.Around.{AreAround}
use Rattle.slp_rebalance.proofs.CopyLemmas.{copies-add, copies-one, leaves-copies, some_digits, times-more}

-- no more often is no longer
pub fewer-short : (n times m : ℕ) → n ≤ times → times * m ≤ 2 ^ 48 → n * m ≤ 2 ^ 48
fewer-short n times m le h =
    let e : n + (times - n) ≡ times = omega (arith, le) in
    let l : n * m ≤ times * m = subst (λ k. n * m ≤ k * m) e (times-more n (times - n) m) in
    omega (arith, l, h)

-- the leaves of two nodes with such texts
pub both-short : (t u v : Tree) (m n times : ℕ) → text t ≡ copies m (text v) → text u ≡ copies n (text v) → m + n ≤ times → times * leaves v ≤ 2 ^ 48 → leaves t + leaves u ≤ 2 ^ 48
both-short t u v m n times a b le h =
    let e : (m + n) * leaves v ≡ m * leaves v + n * leaves v = omega arith in
    omega (arith, e, leaves-copies t v m a, leaves-copies u v n b, fewer-short (m + n) times (leaves v) le h)

-- the text of a pair of two such nodes
pub both-copies : (t u : Tree) (m n times : ℕ) (s : List ℕ) → text t ≡ copies m s → text u ≡ copies n s → m + n ≡ times → text (Fork t u) ≡ copies times s
both-copies t u m n times s a b e = (λ j. a j ++ b j) ∙ (sym (copies-add m n s) ∙ ap (λ k. copies k s) e)

pub near-around : (ns : List Node) (s : List ℕ) (n a b : ℕ) → AreAround ns s n a b → IsNear (height (tree ns b)) (height (tree ns a))
near-around ns s n a b w = (w.high, omega (arith, w.low))

pub around-grows : (old new : List Node) (p q : ℕ) → Grows old new p q → (s : List ℕ) (n a b : ℕ) → AreAround old s n a b → AreAround new s n a b
around-grows old new p q g s n a b w =
    let ta : tree new a ≡ tree old a = tree-grows old new p q g a w.a_live in
    let tb : tree new b ≡ tree old b = tree-grows old new p q g b w.b_live in
    record {
      a_live = omega (arith, w.a_live, Grows-length old new p q g);
      b_live = omega (arith, w.b_live, Grows-length old new p q g);
      fewer = ap text ta ∙ w.fewer;
      more = ap text tb ∙ w.more;
      low = omega (arith, w.low, ap height ta, ap height tb);
      high = omega (arith, w.high, ap height ta, ap height tb);
    }

-- once and twice
pub around-one : (old new : List Node) (p q i twice : ℕ) → Grows old new p q → i < length old → twice < length new → tree new twice ≡ Fork (tree old i) (tree old i) → AreAround new (text (tree old i)) 1 i twice
around-one old new p q i twice g live there is =
    let t : tree new i ≡ tree old i = tree-grows old new p q g i live in
    let s : List ℕ = text (tree old i) in
    let one : text (tree old i) ≡ copies 1 s = sym (copies-one s) in
    record {
      a_live = omega (arith, live, Grows-length old new p q g);
      b_live = there;
      fewer = ap text t ∙ one;
      more = ap text is ∙ both-copies (tree old i) (tree old i) 1 1 2 s one one (omega arith);
      low = omega (arith, ap height t, ap height is);
      high = omega (arith, ap height t, ap height is);
    }

-- twice as many and once more, where c is the pair of the two nodes
module _ (old mid new : List Node) (p q r : ℕ) (s : List ℕ) (k n a b c d : ℕ) (w : AreAround old s k a b) (g : Grows old mid p q) (h : Grows mid new q r) (live : c < length mid) (is : tree mid c ≡ Fork (tree old b) (tree old a)) (there : d < length new) where
  kept : AreAround mid s k a b
  kept = around-grows old mid p q g s k a b w

  between : tree new c ≡ Fork (tree old b) (tree old a)
  between = tree-grows mid new q r h c live ∙ is

  -- an even number
  pub around-even : n ≡ k + k → tree new d ≡ Fork (tree mid a) (tree mid a) → AreAround new s n d c
  around-even e twice =
      let ta : tree mid a ≡ tree old a = tree-grows old mid p q g a w.a_live in
      record {
        a_live = there;
        b_live = omega (arith, live, Grows-length mid new q r h);
        fewer = ap text twice ∙ both-copies (tree mid a) (tree mid a) k k n s kept.fewer kept.fewer (sym e);
        more = ap text between ∙ both-copies (tree old b) (tree old a) (k + 1) k (n + 1) s w.more w.fewer (omega (arith, e));
        low = omega (arith, ap height twice, ap height between, ap height ta, w.low);
        high = omega (arith, ap height twice, ap height between, ap height ta, w.low, w.high);
      }

  -- an odd number
  pub around-odd : n ≡ (k + k) + 1 → tree new d ≡ Fork (tree mid b) (tree mid b) → AreAround new s n c d
  around-odd e twice =
      let tb : tree mid b ≡ tree old b = tree-grows old mid p q g b w.b_live in
      record {
        a_live = omega (arith, live, Grows-length mid new q r h);
        b_live = there;
        fewer = ap text between ∙ both-copies (tree old b) (tree old a) (k + 1) k n s w.more w.fewer (omega (arith, e));
        more = ap text twice ∙ both-copies (tree mid b) (tree mid b) (k + 1) (k + 1) (n + 1) s kept.more kept.more (omega (arith, e));
        low = omega (arith, ap height twice, ap height between, ap height tb, w.low);
        high = omega (arith, ap height twice, ap height between, ap height tb, w.low);
      }

-- what they cost
pub one-digit : (places : ℕ) → 1 < 2 ^ places → 1 ≤ digits_in places 1
one-digit places below = some_digits places 1 (omega arith) below

pub around-step : (places n old paid now : ℕ) → 2 ≤ n → n < 2 ^ places → ((k : ℕ) → n / 2 < 2 ^ k → paid + 1 ≤ old + 2 * digits_in k (n / 2)) → now ≤ paid + 2 → now + 1 ≤ old + 2 * digits_in places n
around-step zero n old paid now two below before step = absurd (omega (arith, two, below))
around-step (suc k) zero old paid now two below before step = absurd (omega (arith, two))
around-step (suc k) (suc n) old paid now two below before step =
    let p : 2 ^ suc k ≡ 2 * 2 ^ k = omega arith in
    let lt : suc n / 2 < 2 ^ k = omega (arith, below, p) in
    omega (arith, before k lt, step)

pub odd-step : (places n old paid now : ℕ) → 2 ≤ n → n < 2 ^ places → ((k : ℕ) → n / 2 < 2 ^ k → paid + 1 ≤ old + 2 * digits_in k (n / 2)) → now ≤ paid + 1 → now ≤ old + run_cost places n
odd-step places n old paid now two below before step = omega (arith, around-step places n old paid (now + 1) two below before (omega (arith, step)))
