-- Classes of bytes.
use Rattle.std.proofs.Common.{◌≡◌, ℕ, ◌+◌, ◌<◌, ◌≤◌, ◌==◌, ◌⊎◌, inl, inr, Bool, true, false, List, [], ◌∷◌, ◌++◌, length, replicate, Some, Contains, set, slice_get, slice_index_or, get_or, refl, sym, ap, subst, ◌∙◌, arith, get_or-set_other, get_or-set_same}
use Rattle.std.proofs.lemmas.List.{length-replicate, get_or_past}
use Rattle.std.proofs.Math.ListN.{length-set}
use Rattle.std.proofs.lemmas.Bool.Decides.{eqb_tells}
use Rattle.std.proofs.lemmas.Option.{slice_get_within, get_or_from_slice_get}
use Rattle.marker_dfa.specs.Deterministic.{AreAlike, DeterministicAutomaton, next_of}
use Rattle.marker_dfa.proofs.Lists.{contains_push}
use Rattle.marker_dfa.proofs.Tracks.{blank_out}
use Rattle.span_algebra.specs.declared.classes.Class.{Class}
use Rattle.span_algebra.specs.Making.{AreClassesUpTo}

cases : (b n : ℕ) → b < n + 1 → (b < n) ⊎ (b ≡ n)
cases b n lt = grind arith

same-or : (x y : ℕ) → (x ≡ y) ⊎ (x ≡ y → ⊥)
same-or x y = go (eqb_tells x y)
  where
    go : ((x == y ≡ true) × (x ≡ y)) ⊎ ((x == y ≡ false) × (x ≡ y → ⊥)) → (x ≡ y) ⊎ (x ≡ y → ⊥)
    go (inl e) = inl e.1
    go (inr e) = inr e.1

set-cases : (cs : List Class) (p : ℕ) (x y : Class) → p < length cs → Contains (set cs p x) y → (y ≡ x) ⊎ Contains cs y
set-cases cs p x y lt c = by (same-or c.0 p)
  where
    by : (c.0 ≡ p) ⊎ (c.0 ≡ p → ⊥) → (y ≡ x) ⊎ Contains cs y
    by (inl e) = inl (sym c.2 ∙ ap (λ k. get_or (set cs p x) k y) e ∙ get_or-set_same cs p x y lt)
    by (inr n) = inr (c.0, omega (arith, c.1, length-set cs p x), sym (get_or-set_other cs p c.0 x y n) ∙ c.2)

set-there : (cs : List Class) (p : ℕ) (x : Class) → p < length cs → Contains (set cs p x) x
set-there cs p x lt = (p, omega (arith, lt, length-set cs p x), get_or-set_same cs p x x lt)

set-other : (cs : List Class) (p : ℕ) (x c y : Class) → slice_get cs p ≡ Some c → Contains cs y → (y ≡ c) ⊎ Contains (set cs p x) y
set-other cs p x c y e k = by (same-or k.0 p)
  where
    by : (k.0 ≡ p) ⊎ (k.0 ≡ p → ⊥) → (y ≡ c) ⊎ Contains (set cs p x) y
    by (inl s) = inl (sym k.2 ∙ ap (λ j. get_or cs j y) s ∙ get_or_from_slice_get cs p c y e)
    by (inr n) = inr (k.0, omega (arith, k.1, length-set cs p x), get_or-set_other cs p k.0 x y n ∙ k.2)

-- the members of a set after one is put in
put-old : (l : List Bool) (n b : ℕ) → slice_index_or l b false ≡ true → slice_index_or (set l n true) b false ≡ true
put-old l n b h = by (same-or b n)
  where
    in_range : b < length l
    in_range = go (lt-or b (length l))
      where
        lt-or : (x y : ℕ) → (x < y) ⊎ (y ≤ x)
        lt-or x y = grind arith

        go : (b < length l) ⊎ (length l ≤ b) → b < length l
        go (inl x) = x
        go (inr x) = let bad : true ≡ false = sym h ∙ get_or_past l b false x in absurd (cc)

    by : (b ≡ n) ⊎ (b ≡ n → ⊥) → slice_index_or (set l n true) b false ≡ true
    by (inl e) = subst (λ (k : ℕ). slice_index_or (set l k true) b false ≡ true) e (get_or-set_same l b true false in_range)
    by (inr ne) = get_or-set_other l n b true false ne ∙ h

put-new : (l : List Bool) (n b : ℕ) → slice_index_or (set l n true) b false ≡ true → (b ≡ n) ⊎ (slice_index_or l b false ≡ true)
put-new l n b h = by (same-or b n)
  where
    by : (b ≡ n) ⊎ (b ≡ n → ⊥) → (b ≡ n) ⊎ (slice_index_or l b false ≡ true)
    by (inl e) = inl e
    by (inr ne) = inr (sym (get_or-set_other l n b true false ne) ∙ h)

pub no-classes : (a : DeterministicAutomaton) → AreClassesUpTo 0 a []
no-classes a = record {
  size = λ c k. absurd (omega (arith, k.1));
  own = λ c k. absurd (omega (arith, k.1));
  alike = λ c b k l. absurd (omega (arith, k.1));
  all = λ b lt. absurd (omega (arith, lt));
}

pub class-put : (a : DeterministicAutomaton) (cs : List Class) (n p : ℕ) (c x : Class) → AreClassesUpTo n a cs → n < 256 → slice_get cs p ≡ Some c → AreAlike a n c.first → x ≡ record { first = c.first; letters = set c.letters n true } → AreClassesUpTo (n + 1) a (set cs p x)
class-put a cs n p c x h small e alike is =
    record {
      size = λ y k. size_of y (set-cases cs p x y lt k);
      own = λ y k. own_of y (set-cases cs p x y lt k);
      alike = λ y b k l. alike_of y b l (set-cases cs p x y lt k);
      all = λ b k. found b (cases b n k);
    }
  where
    lt : p < length cs
    lt = slice_get_within cs p c e

    here : Contains cs c
    here = (p, lt, get_or_from_slice_get cs p c c e)

    letters : x.letters ≡ set c.letters n true
    letters = ap (λ (y : Class). y.letters) is

    first : x.first ≡ c.first
    first = ap (λ (y : Class). y.first) is

    size_of : (y : Class) → (y ≡ x) ⊎ Contains cs y → length y.letters ≡ 256
    size_of y (inl s) = ap (λ (z : Class). length z.letters) s ∙ ap length letters ∙ length-set c.letters n true ∙ h.size c here
    size_of y (inr k) = h.size y k

    own_of : (y : Class) → (y ≡ x) ⊎ Contains cs y → slice_index_or y.letters y.first false ≡ true
    own_of y (inl s) =
        let m : slice_index_or x.letters c.first false ≡ true = subst (λ (z : List Bool). slice_index_or z c.first false ≡ true) (sym letters) (put-old c.letters n c.first (h.own c here)) in
        subst (λ (z : Class). slice_index_or z.letters z.first false ≡ true) (sym s) (subst (λ (k : ℕ). slice_index_or x.letters k false ≡ true) (sym first) m)
    own_of y (inr k) = h.own y k

    one : (b : ℕ) → (b ≡ n) ⊎ (slice_index_or c.letters b false ≡ true) → (b < 256) × AreAlike a b c.first
    one b (inl s) = (omega (arith, s, small), subst (λ (k : ℕ). AreAlike a k c.first) (sym s) alike)
    one b (inr l) = h.alike c b here l

    alike_of : (y : Class) (b : ℕ) → slice_index_or y.letters b false ≡ true → (y ≡ x) ⊎ Contains cs y → (b < 256) × AreAlike a b y.first
    alike_of y b l (inl s) =
        let m = subst (λ (z : List Bool). slice_index_or z b false ≡ true) (ap (λ (z : Class). z.letters) s ∙ letters) l in
        let r = one b (put-new c.letters n b m) in
        (r.0, subst (λ (k : ℕ). AreAlike a b k) (sym (ap (λ (z : Class). z.first) s ∙ first)) r.1)
    alike_of y b l (inr k) = h.alike y b k l

    in_x : (b : ℕ) → slice_index_or (set c.letters n true) b false ≡ true → (y : Class) × Contains (set cs p x) y × (slice_index_or y.letters b false ≡ true)
    in_x b l = (x, set-there cs p x lt, subst (λ (z : List Bool). slice_index_or z b false ≡ true) (sym letters) l)

    found : (b : ℕ) → (b < n) ⊎ (b ≡ n) → (y : Class) × Contains (set cs p x) y × (slice_index_or y.letters b false ≡ true)
    found b (inl k) = let w = h.all b k in by w.0 w.2 (set-other cs p x c w.0 e w.1)
      where
        by : (y : Class) → slice_index_or y.letters b false ≡ true → (y ≡ c) ⊎ Contains (set cs p x) y → (z : Class) × Contains (set cs p x) z × (slice_index_or z.letters b false ≡ true)
        by y l (inl s) = in_x b (put-old c.letters n b (subst (λ (z : Class). slice_index_or z.letters b false ≡ true) s l))
        by y l (inr k) = (y, k, l)
    found b (inr s) = in_x b (subst (λ (k : ℕ). slice_index_or (set c.letters n true) k false ≡ true) (sym s) (get_or-set_same c.letters n true false (omega (arith, h.size c here, small))))

pub class-new : (a : DeterministicAutomaton) (cs : List Class) (n : ℕ) (x : Class) → AreClassesUpTo n a cs → n < 256 → x ≡ record { first = n; letters = set (replicate 256 false) n true } → AreClassesUpTo (n + 1) a (cs ++ x ∷ [])
class-new a cs n x h small is =
    record {
      size = λ y k. size_of y ((contains_push cs x y).0 k);
      own = λ y k. own_of y ((contains_push cs x y).0 k);
      alike = λ y b k l. alike_of y b l ((contains_push cs x y).0 k);
      all = λ b k. found b (cases b n k);
    }
  where
    letters : x.letters ≡ set (replicate 256 false) n true
    letters = ap (λ (y : Class). y.letters) is

    size_of : (y : Class) → Contains cs y ⊎ (y ≡ x) → length y.letters ≡ 256
    size_of y (inl k) = h.size y k
    size_of y (inr s) = ap (λ (z : Class). length z.letters) s ∙ ap length letters ∙ length-set (replicate 256 false) n true ∙ length-replicate 256 false

    own_of : (y : Class) → Contains cs y ⊎ (y ≡ x) → slice_index_or y.letters y.first false ≡ true
    own_of y (inl k) = h.own y k
    own_of y (inr s) =
        let m : slice_index_or x.letters n false ≡ true = subst (λ (z : List Bool). slice_index_or z n false ≡ true) (sym letters) (get_or-set_same (replicate 256 false) n true false (omega (arith, small, length-replicate 256 false))) in
        subst (λ (z : Class). slice_index_or z.letters z.first false ≡ true) (sym s) (subst (λ (k : ℕ). slice_index_or x.letters k false ≡ true) (sym (ap (λ (y : Class). y.first) is)) m)

    only : (b : ℕ) → (b ≡ n) ⊎ (slice_index_or (replicate 256 false) b false ≡ true) → b ≡ n
    only b (inl s) = s
    only b (inr l) = let bad : true ≡ false = sym l ∙ blank_out 256 b in absurd (cc)

    alike_of : (y : Class) (b : ℕ) → slice_index_or y.letters b false ≡ true → Contains cs y ⊎ (y ≡ x) → (b < 256) × AreAlike a b y.first
    alike_of y b l (inl k) = h.alike y b k l
    alike_of y b l (inr s) =
        let m = subst (λ (z : List Bool). slice_index_or z b false ≡ true) (ap (λ (z : Class). z.letters) s ∙ letters) l in
        let e = only b (put-new (replicate 256 false) n b m) in
        let f : b ≡ y.first = e ∙ sym (ap (λ (z : Class). z.first) s ∙ ap (λ (z : Class). z.first) is) in
        (omega (arith, e, small), λ q k. ap (λ (j : ℕ). next_of a q k j) f)

    found : (b : ℕ) → (b < n) ⊎ (b ≡ n) → (y : Class) × Contains (cs ++ x ∷ []) y × (slice_index_or y.letters b false ≡ true)
    found b (inl k) = let w = h.all b k in (w.0, (contains_push cs x w.0).1 (inl w.1), w.2)
    found b (inr s) = (x, (contains_push cs x x).1 (inr refl), subst (λ (z : List Bool). slice_index_or z b false ≡ true) (sym letters) (subst (λ (k : ℕ). slice_index_or (set (replicate 256 false) n true) k false ≡ true) (sym s) (get_or-set_same (replicate 256 false) n true false (omega (arith, small, length-replicate 256 false)))))
