-- The greatest mark of a formula's variables, and parts of small formulas.
use Rattle.std.proofs.Common.{◌≡◌, ℕ, zero, suc, ◌+◌, ◌*◌, ◌^◌, ◌<◌, ◌≤◌, Bool, true, false, ◌||◌, ◌==◌, ◌⊎◌, inl, inr, refl, sym, ap, ◌∙◌, arith, if◌then◌else◌, pow-suc}
use Rattle.std.proofs.lemmas.Bool.Decides.{eqb_tells}
use Rattle.span_types.specs.FormulaTree.{FormulaTree, Set, Empty, Cat, Alt, Star, Plus, Opt, Capture, has_var, fault, sets}
use Rattle.formula_law.specs.Law.{VarsBelow}
use Rattle.formula_law.specs.Positions.{Joins, IsNull, IsFirst, IsLast, IsFollow}
use Rattle.marker_nfa.specs.Parts.{IsSmall}
use Rattle.marker_nfa.specs.declared.parts.Part.{Part}
use Rattle.marker_nfa.specs.Parts.{IsPart, MayFollow, MayName, AreShortHops}
use Rattle.formula_law.proofs.Ranges.{NoVars, border_zero, follow_zero, null_zero}
use Rattle.formula_law.proofs.Fault.{first_none, Apart, Plain, plain}
use Rattle.formula_law.proofs.FitsWords.{below_left, below_right, below_named, named_below}

abbrev pub weigh : Bool → ℕ → ℕ
weigh b v = if b then 3 * 4 ^ v else 0

-- three times 4^v for each variable v below k
abbrev pub weight : ℕ → FormulaTree → ℕ
weight zero f = 0
weight (suc k) f = weight k f + weigh (has_var f k) k

weigh_le : (b : Bool) (v : ℕ) → weigh b v ≤ 3 * 4 ^ v
weigh_le true v = omega arith
weigh_le false v = omega arith

pub weight_below : (k : ℕ) (f : FormulaTree) → weight k f < 4 ^ k
weight_below zero f = omega arith
weight_below (suc k) f =
    let e : 4 ^ suc k ≡ 4 ^ k * 4 = pow-suc 4 k in
    omega (arith, weight_below k f, weigh_le (has_var f k) k, e)

weigh_or : (a b : Bool) (v : ℕ) → (a ≡ true → b ≡ true → ⊥) → weigh (a || b) v ≡ weigh a v + weigh b v
weigh_or true true v n = absurd (n refl refl)
weigh_or true false v n = omega arith
weigh_or false b v n = omega arith

weigh_first : (a b : Bool) (v : ℕ) → weigh a v ≤ weigh (a || b) v
weigh_first true b v = omega arith
weigh_first false b v = omega arith

weigh_second : (a b : Bool) (v : ℕ) → weigh b v ≤ weigh (a || b) v
weigh_second true true v = omega arith
weigh_second true false v = omega arith
weigh_second false b v = omega arith

weight_cat : (k : ℕ) (a b : FormulaTree) → Apart a b → weight k (Cat a b) ≡ weight k a + weight k b
weight_cat zero a b n = refl
weight_cat (suc k) a b n = omega (arith, weight_cat k a b n, weigh_or (has_var a k) (has_var b k) k (n k))

weight_first : (k : ℕ) (a b : FormulaTree) → weight k a ≤ weight k (Alt a b)
weight_first zero a b = omega arith
weight_first (suc k) a b = omega (arith, weight_first k a b, weigh_first (has_var a k) (has_var b k) k)

weight_second : (k : ℕ) (a b : FormulaTree) → weight k b ≤ weight k (Alt a b)
weight_second zero a b = omega arith
weight_second (suc k) a b = omega (arith, weight_second k a b, weigh_second (has_var a k) (has_var b k) k)

weight_keep : (k x : ℕ) (a : FormulaTree) → k ≤ x → weight k a ≤ weight k (Capture x a)
weight_keep zero x a le = omega arith
weight_keep (suc k) x a le = omega (arith, weight_keep k x a (omega arith), weigh_second (x == k) (has_var a k) k)

weight_capture : (k x : ℕ) (a : FormulaTree) → has_var a x ≡ false → x < k → weight k a + 3 * 4 ^ x ≤ weight k (Capture x a)
weight_capture zero x a n lt = absurd (omega arith)
weight_capture (suc k) x a n lt = go (eqb_tells x k) (λ l. weight_capture k x a n l)
  where
    lower : (x ≡ k → ⊥) → x < k
    lower ne = grind arith

    go : ((x == k ≡ true) × (x ≡ k)) ⊎ ((x == k ≡ false) × (x ≡ k → ⊥)) → (x < k → weight k a + 3 * 4 ^ x ≤ weight k (Capture x a)) → weight (suc k) a + 3 * 4 ^ x ≤ weight (suc k) (Capture x a)
    go (inl e) rec =
        let kept = weight_keep k x a (omega (arith, e.1)) in
        let none : weigh (has_var a k) k ≡ 0 = ap (λ b. weigh b k) (ap (has_var a) (sym e.1) ∙ n) in
        let full : weigh ((x == k) || has_var a k) k ≡ 3 * 4 ^ k = ap (λ b. weigh (b || has_var a k) k) e.0 in
        let same : 4 ^ x ≡ 4 ^ k = ap (λ y. 4 ^ y) e.1 in
        omega (arith, kept, none, full, same)
    go (inr e) rec = omega (arith, rec (lower e.1), weigh_second (x == k) (has_var a k) k)

pub null_le : (k : ℕ) (f : FormulaTree) (m : ℕ) → Plain f → VarsBelow k f → IsNull f m → m ≤ weight k f
null_le k (Set b) m pl below h = absurd h
null_le k Empty m pl below h = omega (arith, h)
null_le k (Cat a b) m pl below h =
    let l = null_le k a h.left pl.0 (below_left k a b below) h.in_left in
    let r = null_le k b h.right pl.1 (below_right k a b below) h.in_right in
    omega (arith, h.sum, l, r, weight_cat k a b pl.2)
null_le k (Alt a b) m pl below (inl h) = let l = null_le k a m pl.0 (below_left k a b below) h in omega (arith, l, weight_first k a b)
null_le k (Alt a b) m pl below (inr h) = let l = null_le k b m pl.1 (below_right k a b below) h in omega (arith, l, weight_second k a b)
null_le k (Star a) m pl below (inl h) = omega (arith, h)
null_le k (Star a) m pl below (inr h) = let z = null_zero a m pl.1 h in omega (arith, z)
null_le k (Plus a) m pl below h = same_weight k a (null_le k a m pl.0 below h)
  where
    same_weight : (k : ℕ) (a : FormulaTree) → m ≤ weight k a → m ≤ weight k (Plus a)
    same_weight k a l = omega (arith, l, plussed k a)
      where
        plussed : (k : ℕ) (a : FormulaTree) → weight k a ≡ weight k (Plus a)
        plussed zero a = refl
        plussed (suc k) a = omega (arith, plussed k a)
null_le k (Opt a) m pl below (inl h) = omega (arith, h)
null_le k (Opt a) m pl below (inr h) = omega (arith, null_le k a m pl below h, optional k a)
  where
    optional : (k : ℕ) (a : FormulaTree) → weight k a ≡ weight k (Opt a)
    optional zero a = refl
    optional (suc k) a = omega (arith, optional k a)
null_le k (Capture x a) m pl below h =
    let l = null_le k a h.0 pl.0 (below_named k x a below) h.1 in
    omega (arith, l, h.2, weight_capture k x a pl.1 (named_below x a k below))

optional_weight : (k : ℕ) (a : FormulaTree) → weight k a ≡ weight k (Opt a)
optional_weight zero a = refl
optional_weight (suc k) a = omega (arith, optional_weight k a)

-- the mark of a first or a last occurrence
pub border_le : (k : ℕ) (f : FormulaTree) (n m o : ℕ) → Plain f → VarsBelow k f → IsFirst f n m o ⊎ IsLast f n o m → m ≤ weight k f
border_le k (Set b) n m o pl below (inl h) = omega (arith, h.0)
border_le k (Set b) n m o pl below (inr h) = omega (arith, h.1)
border_le k Empty n m o pl below (inl h) = absurd h
border_le k Empty n m o pl below (inr h) = absurd h
border_le k (Cat a b) n m o pl below (inl (inl h)) = let l = border_le k a n m o pl.0 (below_left k a b below) (inl h) in omega (arith, l, weight_cat k a b pl.2)
border_le k (Cat a b) n m o pl below (inl (inr h)) =
    let l = null_le k a h.left pl.0 (below_left k a b below) h.in_left in
    let r = border_le k b (n + sets a) h.right o pl.1 (below_right k a b below) (inl h.in_right) in
    omega (arith, h.sum, l, r, weight_cat k a b pl.2)
border_le k (Cat a b) n m o pl below (inr (inl h)) = let r = border_le k b (n + sets a) m o pl.1 (below_right k a b below) (inr h) in omega (arith, r, weight_cat k a b pl.2)
border_le k (Cat a b) n m o pl below (inr (inr h)) =
    let l = border_le k a n h.left o pl.0 (below_left k a b below) (inr h.in_left) in
    let r = null_le k b h.right pl.1 (below_right k a b below) h.in_right in
    omega (arith, h.sum, l, r, weight_cat k a b pl.2)
border_le k (Alt a b) n m o pl below (inl (inl h)) = let l = border_le k a n m o pl.0 (below_left k a b below) (inl h) in omega (arith, l, weight_first k a b)
border_le k (Alt a b) n m o pl below (inl (inr h)) = let r = border_le k b (n + sets a) m o pl.1 (below_right k a b below) (inl h) in omega (arith, r, weight_second k a b)
border_le k (Alt a b) n m o pl below (inr (inl h)) = let l = border_le k a n m o pl.0 (below_left k a b below) (inr h) in omega (arith, l, weight_first k a b)
border_le k (Alt a b) n m o pl below (inr (inr h)) = let r = border_le k b (n + sets a) m o pl.1 (below_right k a b below) (inr h) in omega (arith, r, weight_second k a b)
border_le k (Star a) n m o pl below h = let z = border_zero a n m o pl.1 h in omega (arith, z)
border_le k (Plus a) n m o pl below h = let z = border_zero a n m o pl.1 h in omega (arith, z)
border_le k (Opt a) n m o pl below h = omega (arith, border_le k a n m o pl below h, optional_weight k a)
border_le k (Capture x a) n m o pl below (inl h) = omega (arith, border_le k a n h.0 o pl.0 (below_named k x a below) (inl h.1), h.2, weight_capture k x a pl.1 (named_below x a k below))
border_le k (Capture x a) n m o pl below (inr h) = omega (arith, border_le k a n h.0 o pl.0 (below_named k x a below) (inr h.1), h.2, weight_capture k x a pl.1 (named_below x a k below))

pub star_small : (a : FormulaTree) → IsSmall (Star a) → IsSmall a
star_small a s = record { fun = (first_none (fault a) _ s.fun).0; below = s.below }

pub cat_small_left : (a b : FormulaTree) → IsSmall (Cat a b) → IsSmall a
cat_small_left a b s = record { fun = (first_none (fault a) _ s.fun).0; below = below_left 8 a b s.below }

pub cat_small_right : (a b : FormulaTree) → IsSmall (Cat a b) → IsSmall b
cat_small_right a b s = record { fun = (first_none (fault b) _ (first_none (fault a) _ s.fun).1).0; below = below_right 8 a b s.below }

pub alt_small_left : (a b : FormulaTree) → IsSmall (Alt a b) → IsSmall a
alt_small_left a b s = record { fun = (first_none (fault a) _ s.fun).0; below = below_left 8 a b s.below }

pub alt_small_right : (a b : FormulaTree) → IsSmall (Alt a b) → IsSmall b
alt_small_right a b s = record { fun = (first_none (fault a) _ s.fun).1; below = below_right 8 a b s.below }

pub plus_small : (a : FormulaTree) → IsSmall (Plus a) → IsSmall a
plus_small a s = record { fun = (first_none (fault a) _ s.fun).0; below = s.below }

pub opt_small : (a : FormulaTree) → IsSmall (Opt a) → IsSmall a
opt_small a s = record { fun = s.fun; below = s.below }

pub capture_small : (x : ℕ) (a : FormulaTree) → IsSmall (Capture x a) → IsSmall a
capture_small x a s = record { fun = (first_none (fault a) _ s.fun).0; below = below_named 8 x a s.below }

-- parts of a small formula make short sums
pub may_follow : (a b : FormulaTree) (n m : ℕ) (p q : Part) → IsSmall (Cat a b) → IsPart a n p → IsPart b m q → MayFollow p q
may_follow a b n m p q s ip iq =
    let pl = plain (Cat a b) s.fun in
    let ba = below_left 8 a b s.below in
    let bb = below_right 8 a b s.below in
    let w = weight_cat 8 a b pl.2 in
    let t = weight_below 8 (Cat a b) in
    record {
      nulls = λ x y h k. (let l = null_le 8 a x pl.0 ba ((ip.nulls_are x).0 h) in let r = null_le 8 b y pl.1 bb ((iq.nulls_are y).0 k) in omega (arith, l, r, w, t));
      firsts = λ x y h k. (let l = null_le 8 a x pl.0 ba ((ip.nulls_are x).0 h) in let r = border_le 8 b m y.mark y.state pl.1 bb (inl ((iq.firsts_are y).0 k)) in omega (arith, l, r, w, t));
      lasts = λ x y h k. (let l = null_le 8 b x pl.1 bb ((iq.nulls_are x).0 h) in let r = border_le 8 a n y.mark y.state pl.0 ba (inr ((ip.lasts_are y).0 k)) in omega (arith, l, r, w, t));
      hops = λ x y h k. (let l = border_le 8 a n x.mark x.state pl.0 ba (inr ((ip.lasts_are x).0 h)) in let r = border_le 8 b m y.mark y.state pl.1 bb (inl ((iq.firsts_are y).0 k)) in omega (arith, l, r, w, t));
    }

may_repeat : (a : FormulaTree) (n : ℕ) (p : Part) → NoVars a → IsPart a n p → AreShortHops p.lasts.items p.firsts.items
may_repeat a n p plain_a ip x y h k =
    let l = border_zero a n x.mark x.state plain_a (inr ((ip.lasts_are x).0 h)) in
    let r = border_zero a n y.mark y.state plain_a (inl ((ip.firsts_are y).0 k)) in
    omega (arith, l, r)

pub may_star : (a : FormulaTree) (n : ℕ) (p : Part) → IsSmall (Star a) → IsPart a n p → AreShortHops p.lasts.items p.firsts.items
may_star a n p s ip = may_repeat a n p (plain (Star a) s.fun).1 ip

pub may_plus : (a : FormulaTree) (n : ℕ) (p : Part) → IsSmall (Plus a) → IsPart a n p → AreShortHops p.lasts.items p.firsts.items
may_plus a n p s ip = may_repeat a n p (plain (Plus a) s.fun).1 ip

pub may_name : (x : ℕ) (a : FormulaTree) (n : ℕ) (p : Part) → IsSmall (Capture x a) → IsPart a n p → MayName x p
may_name x a n p s ip =
    let pl = plain (Capture x a) s.fun in
    let ba = below_named 8 x a s.below in
    let w = weight_capture 8 x a pl.1 (named_below x a 8 s.below) in
    let t = weight_below 8 (Capture x a) in
    record {
      few = named_below x a 8 s.below;
      nulls = λ m h. (let l = null_le 8 a m pl.0 ba ((ip.nulls_are m).0 h) in omega (arith, l, w, t));
      firsts = λ y h. (let l = border_le 8 a n y.mark y.state pl.0 ba (inl ((ip.firsts_are y).0 h)) in omega (arith, l, w, t));
      lasts = λ y h. (let l = border_le 8 a n y.mark y.state pl.0 ba (inr ((ip.lasts_are y).0 h)) in omega (arith, l, w, t));
    }

joins_le : (k : ℕ) (a b : FormulaTree) (n l o m p : ℕ) → Plain a → Plain b → VarsBelow k a → VarsBelow k b → Joins (IsLast a n) (IsFirst b l) o m p → m ≤ weight k a + weight k b
joins_le k a b n l o m p pa pb va vb h =
    let x = border_le k a n h.left o pa va (inr h.in_left) in
    let y = border_le k b l h.right p pb vb (inl h.in_right) in
    omega (arith, h.sum, x, y)

repeat_le : (k : ℕ) (a : FormulaTree) (n o m p : ℕ) → NoVars a → Joins (IsLast a n) (IsFirst a n) o m p → m ≤ 0
repeat_le k a n o m p z h =
    let x = border_zero a n h.left o z (inr h.in_left) in
    let y = border_zero a n h.right p z (inl h.in_right) in
    omega (arith, h.sum, x, y)

pub follow_le : (k : ℕ) (f : FormulaTree) (n o m p : ℕ) → Plain f → VarsBelow k f → IsFollow f n o m p → m ≤ weight k f
follow_le k (Set b) n o m p pl below h = absurd h
follow_le k Empty n o m p pl below h = absurd h
follow_le k (Cat a b) n o m p pl below (inl h) = let l = follow_le k a n o m p pl.0 (below_left k a b below) h in omega (arith, l, weight_cat k a b pl.2)
follow_le k (Cat a b) n o m p pl below (inr (inl h)) = let l = follow_le k b (n + sets a) o m p pl.1 (below_right k a b below) h in omega (arith, l, weight_cat k a b pl.2)
follow_le k (Cat a b) n o m p pl below (inr (inr h)) = let l = joins_le k a b n (n + sets a) o m p pl.0 pl.1 (below_left k a b below) (below_right k a b below) h in omega (arith, l, weight_cat k a b pl.2)
follow_le k (Alt a b) n o m p pl below (inl h) = let l = follow_le k a n o m p pl.0 (below_left k a b below) h in omega (arith, l, weight_first k a b)
follow_le k (Alt a b) n o m p pl below (inr h) = let l = follow_le k b (n + sets a) o m p pl.1 (below_right k a b below) h in omega (arith, l, weight_second k a b)
follow_le k (Star a) n o m p pl below (inl h) = let l = follow_zero a n o m p pl.1 h in omega (arith, l)
follow_le k (Star a) n o m p pl below (inr h) = let l = repeat_le k a n o m p pl.1 h in omega (arith, l)
follow_le k (Plus a) n o m p pl below (inl h) = let l = follow_zero a n o m p pl.1 h in omega (arith, l)
follow_le k (Plus a) n o m p pl below (inr h) = let l = repeat_le k a n o m p pl.1 h in omega (arith, l)
follow_le k (Opt a) n o m p pl below h = omega (arith, follow_le k a n o m p pl below h, optional_weight k a)
follow_le k (Capture x a) n o m p pl below h =
    let l = follow_le k a n o m p pl.0 (below_named k x a below) h in
    omega (arith, l, weight_capture k x a pl.1 (named_below x a k below))
