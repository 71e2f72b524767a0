-- The occurrences of a part lie in a stretch of numbers, and a part with no variable has the mark 0 alone.
use Rattle.std.proofs.Common.{◌≡◌, ℕ, ◌+◌, ◌<◌, ◌≤◌, Bool, true, false, ◌||◌, ◌==◌, ◌⊎◌, inl, inr, refl, sym, ◌∙◌, arith, List}
use Rattle.std.proofs.lemmas.Bool.{eq-eqb}
use Rattle.span_types.specs.FormulaTree.{FormulaTree, Set, Empty, Cat, Alt, Star, Plus, Opt, Capture, has_var, sets}
use Rattle.formula_law.specs.Positions.{HasSet, IsNull, IsFirst, IsLast, Joins, IsFollow}

-- a number from n on, of a given count
pub record InRange (n size o : ℕ) : Type 0 where
  pub low : n ≤ o
  pub high : o < n + size

prefix_range : (n a b o : ℕ) → InRange n a o → InRange n (a + b) o
prefix_range n a b o r = record { low = r.low; high = omega (arith, r.high) }

back_range : (n a b o : ℕ) → InRange (n + a) b o → InRange n (a + b) o
back_range n a b o r = record { low = omega (arith, r.low); high = omega (arith, r.high) }

pub apart : {R : Type 0} (n a b o : ℕ) → InRange n a o → InRange (n + a) b o → R
apart n a b o r q = absurd (omega (arith, r.high, q.low))

only : (n o : ℕ) → o ≡ n → InRange n 1 o
only n o e = record { low = omega arith; high = omega arith }

pub set_range : (f : FormulaTree) (n o : ℕ) (c : List Bool) → HasSet f n o c → InRange n (sets f) o
set_range (Set b) n o c h = only n o h.0
set_range Empty n o c h = absurd h
set_range (Cat a b) n o c (inl h) = prefix_range n (sets a) (sets b) o (set_range a n o c h)
set_range (Cat a b) n o c (inr h) = back_range n (sets a) (sets b) o (set_range b (n + sets a) o c h)
set_range (Alt a b) n o c (inl h) = prefix_range n (sets a) (sets b) o (set_range a n o c h)
set_range (Alt a b) n o c (inr h) = back_range n (sets a) (sets b) o (set_range b (n + sets a) o c h)
set_range (Star a) n o c h = set_range a n o c h
set_range (Plus a) n o c h = set_range a n o c h
set_range (Opt a) n o c h = set_range a n o c h
set_range (Capture x a) n o c h = set_range a n o c h

pub first_range : (f : FormulaTree) (n m o : ℕ) → IsFirst f n m o → InRange n (sets f) o
first_range (Set b) n m o h = only n o h.1
first_range Empty n m o h = absurd h
first_range (Cat a b) n m o (inl h) = prefix_range n (sets a) (sets b) o (first_range a n m o h)
first_range (Cat a b) n m o (inr h) = back_range n (sets a) (sets b) o (first_range b (n + sets a) h.right o h.in_right)
first_range (Alt a b) n m o (inl h) = prefix_range n (sets a) (sets b) o (first_range a n m o h)
first_range (Alt a b) n m o (inr h) = back_range n (sets a) (sets b) o (first_range b (n + sets a) m o h)
first_range (Star a) n m o h = first_range a n m o h
first_range (Plus a) n m o h = first_range a n m o h
first_range (Opt a) n m o h = first_range a n m o h
first_range (Capture x a) n m o h = first_range a n h.0 o h.1

pub last_range : (f : FormulaTree) (n o m : ℕ) → IsLast f n o m → InRange n (sets f) o
last_range (Set b) n o m h = only n o h.0
last_range Empty n o m h = absurd h
last_range (Cat a b) n o m (inl h) = back_range n (sets a) (sets b) o (last_range b (n + sets a) o m h)
last_range (Cat a b) n o m (inr h) = prefix_range n (sets a) (sets b) o (last_range a n o h.left h.in_left)
last_range (Alt a b) n o m (inl h) = prefix_range n (sets a) (sets b) o (last_range a n o m h)
last_range (Alt a b) n o m (inr h) = back_range n (sets a) (sets b) o (last_range b (n + sets a) o m h)
last_range (Star a) n o m h = last_range a n o m h
last_range (Plus a) n o m h = last_range a n o m h
last_range (Opt a) n o m h = last_range a n o m h
last_range (Capture x a) n o m h = last_range a n o h.0 h.1

pub record InRanges (n size o p : ℕ) : Type 0 where
  pub from : InRange n size o
  pub to : InRange n size p

prefix_ranges : (n a b o p : ℕ) → InRanges n a o p → InRanges n (a + b) o p
prefix_ranges n a b o p r = record { from = prefix_range n a b o r.from; to = prefix_range n a b p r.to }

back_ranges : (n a b o p : ℕ) → InRanges (n + a) b o p → InRanges n (a + b) o p
back_ranges n a b o p r = record { from = back_range n a b o r.from; to = back_range n a b p r.to }

pub follow_range : (f : FormulaTree) (n o m p : ℕ) → IsFollow f n o m p → InRanges n (sets f) o p
follow_range (Set b) n o m p h = absurd h
follow_range Empty n o m p h = absurd h
follow_range (Cat a b) n o m p (inl h) = prefix_ranges n (sets a) (sets b) o p (follow_range a n o m p h)
follow_range (Cat a b) n o m p (inr (inl h)) = back_ranges n (sets a) (sets b) o p (follow_range b (n + sets a) o m p h)
follow_range (Cat a b) n o m p (inr (inr h)) = record {
  from = prefix_range n (sets a) (sets b) o (last_range a n o h.left h.in_left);
  to = back_range n (sets a) (sets b) p (first_range b (n + sets a) h.right p h.in_right);
}
follow_range (Alt a b) n o m p (inl h) = prefix_ranges n (sets a) (sets b) o p (follow_range a n o m p h)
follow_range (Alt a b) n o m p (inr h) = back_ranges n (sets a) (sets b) o p (follow_range b (n + sets a) o m p h)
follow_range (Star a) n o m p (inl h) = follow_range a n o m p h
follow_range (Star a) n o m p (inr h) = record { from = last_range a n o h.left h.in_left; to = first_range a n h.right p h.in_right }
follow_range (Plus a) n o m p (inl h) = follow_range a n o m p h
follow_range (Plus a) n o m p (inr h) = record { from = last_range a n o h.left h.in_left; to = first_range a n h.right p h.in_right }
follow_range (Opt a) n o m p h = follow_range a n o m p h
follow_range (Capture x a) n o m p h = follow_range a n o m p h

-- no variable occurs in the formula
pub record NoVars (f : FormulaTree) : Type 0 where
  pub none : (v : ℕ) → has_var f v ≡ false

pub or_left : (a b : Bool) → a || b ≡ false → a ≡ false
or_left true b h = h
or_left false b h = refl

pub or_right : (a b : Bool) → a || b ≡ false → b ≡ false
or_right true b h = cc
or_right false b h = h

then_left : (a b : FormulaTree) → NoVars (Cat a b) → NoVars a
then_left a b h = record { none = λ v. or_left (has_var a v) (has_var b v) (h.none v) }

then_right : (a b : FormulaTree) → NoVars (Cat a b) → NoVars b
then_right a b h = record { none = λ v. or_right (has_var a v) (has_var b v) (h.none v) }

same : (a : FormulaTree) (f : FormulaTree) → ((v : ℕ) → has_var f v ≡ has_var a v) → NoVars f → NoVars a
same a f e h = record { none = λ v. sym (e v) ∙ h.none v }

named_none : {R : Type 0} (x : ℕ) (a : FormulaTree) → NoVars (Capture x a) → R
named_none x a h =
    let e : x == x ≡ true = eq-eqb x x refl in
    let g : x == x ≡ false = or_left (x == x) (has_var a x) (h.none x) in
    let bad : true ≡ false = sym e ∙ g in
    absurd (cc)

pub null_zero : (f : FormulaTree) (m : ℕ) → NoVars f → IsNull f m → m ≡ 0
null_zero (Set b) m z h = absurd h
null_zero Empty m z h = h
null_zero (Cat a b) m z h =
    let l = null_zero a h.left (then_left a b z) h.in_left in
    let r = null_zero b h.right (then_right a b z) h.in_right in
    omega (arith, h.sum, l, r)
null_zero (Alt a b) m z (inl h) = null_zero a m (then_left a b (same (Cat a b) (Alt a b) (λ v. refl) z)) h
null_zero (Alt a b) m z (inr h) = null_zero b m (then_right a b (same (Cat a b) (Alt a b) (λ v. refl) z)) h
null_zero (Star a) m z (inl h) = h
null_zero (Star a) m z (inr h) = null_zero a m (same a (Star a) (λ v. refl) z) h
null_zero (Plus a) m z h = null_zero a m (same a (Plus a) (λ v. refl) z) h
null_zero (Opt a) m z (inl h) = h
null_zero (Opt a) m z (inr h) = null_zero a m (same a (Opt a) (λ v. refl) z) h
null_zero (Capture x a) m z h = named_none x a z

-- the mark of a first or a last occurrence
pub border_zero : (f : FormulaTree) (n m o : ℕ) → NoVars f → IsFirst f n m o ⊎ IsLast f n o m → m ≡ 0
border_zero (Set b) n m o z (inl h) = h.0
border_zero (Set b) n m o z (inr h) = h.1
border_zero Empty n m o z (inl h) = absurd h
border_zero Empty n m o z (inr h) = absurd h
border_zero (Cat a b) n m o z (inl (inl h)) = border_zero a n m o (then_left a b z) (inl h)
border_zero (Cat a b) n m o z (inl (inr h)) =
    let l = null_zero a h.left (then_left a b z) h.in_left in
    let r = border_zero b (n + sets a) h.right o (then_right a b z) (inl h.in_right) in
    omega (arith, h.sum, l, r)
border_zero (Cat a b) n m o z (inr (inl h)) = border_zero b (n + sets a) m o (then_right a b z) (inr h)
border_zero (Cat a b) n m o z (inr (inr h)) =
    let l = border_zero a n h.left o (then_left a b z) (inr h.in_left) in
    let r = null_zero b h.right (then_right a b z) h.in_right in
    omega (arith, h.sum, l, r)
border_zero (Alt a b) n m o z (inl (inl h)) = border_zero a n m o (then_left a b (same (Cat a b) (Alt a b) (λ v. refl) z)) (inl h)
border_zero (Alt a b) n m o z (inl (inr h)) = border_zero b (n + sets a) m o (then_right a b (same (Cat a b) (Alt a b) (λ v. refl) z)) (inl h)
border_zero (Alt a b) n m o z (inr (inl h)) = border_zero a n m o (then_left a b (same (Cat a b) (Alt a b) (λ v. refl) z)) (inr h)
border_zero (Alt a b) n m o z (inr (inr h)) = border_zero b (n + sets a) m o (then_right a b (same (Cat a b) (Alt a b) (λ v. refl) z)) (inr h)
border_zero (Star a) n m o z h = border_zero a n m o (same a (Star a) (λ v. refl) z) h
border_zero (Plus a) n m o z h = border_zero a n m o (same a (Plus a) (λ v. refl) z) h
border_zero (Opt a) n m o z h = border_zero a n m o (same a (Opt a) (λ v. refl) z) h
border_zero (Capture x a) n m o z h = named_none x a z

joins_zero : (a b : FormulaTree) (n l o m p : ℕ) → NoVars a → NoVars b → Joins (IsLast a n) (IsFirst b l) o m p → m ≡ 0
joins_zero a b n l o m p za zb h =
    let x = border_zero a n h.left o za (inr h.in_left) in
    let y = border_zero b l h.right p zb (inl h.in_right) in
    omega (arith, h.sum, x, y)

pub follow_zero : (f : FormulaTree) (n o m p : ℕ) → NoVars f → IsFollow f n o m p → m ≡ 0
follow_zero (Set b) n o m p z h = absurd h
follow_zero Empty n o m p z h = absurd h
follow_zero (Cat a b) n o m p z (inl h) = follow_zero a n o m p (then_left a b z) h
follow_zero (Cat a b) n o m p z (inr (inl h)) = follow_zero b (n + sets a) o m p (then_right a b z) h
follow_zero (Cat a b) n o m p z (inr (inr h)) = joins_zero a b n (n + sets a) o m p (then_left a b z) (then_right a b z) h
follow_zero (Alt a b) n o m p z (inl h) = follow_zero a n o m p (then_left a b (same (Cat a b) (Alt a b) (λ v. refl) z)) h
follow_zero (Alt a b) n o m p z (inr h) = follow_zero b (n + sets a) o m p (then_right a b (same (Cat a b) (Alt a b) (λ v. refl) z)) h
follow_zero (Star a) n o m p z (inl h) = follow_zero a n o m p (same a (Star a) (λ v. refl) z) h
follow_zero (Star a) n o m p z (inr h) = let y = same a (Star a) (λ v. refl) z in joins_zero a a n n o m p y y h
follow_zero (Plus a) n o m p z (inl h) = follow_zero a n o m p (same a (Plus a) (λ v. refl) z) h
follow_zero (Plus a) n o m p z (inr h) = let y = same a (Plus a) (λ v. refl) z in joins_zero a a n n o m p y y h
follow_zero (Opt a) n o m p z h = follow_zero a n o m p (same a (Opt a) (λ v. refl) z) h
follow_zero (Capture x a) n o m p z h = named_none x a z
