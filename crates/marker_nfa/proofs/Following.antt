-- The steps of each form of formula, from those of its parts.
use Rattle.std.proofs.Common.{◌≡◌, ℕ, ◌+◌, ◌⊎◌, inl, inr, refl, sym, subst, arith, List, Contains, Bool, true, false, ◌&&◌}
use Rattle.span_types.specs.FormulaTree.{FormulaTree, Cat, Alt, Star, Plus, Opt, Capture, sets}
use Rattle.formula_law.specs.Positions.{Joins, IsNull, IsFirst, IsLast}
use Rattle.marker_nfa.specs.declared.nfa.End.{End}
use Rattle.marker_nfa.specs.declared.lists.Hop.{Hop}
use Rattle.marker_nfa.specs.declared.parts.Part.{Part}
use Rattle.marker_nfa.specs.Parts.{IsPart, IsHopIn, IsFollowHop, Adds, AddsUnless, AddsFollow, CoversPart}

-- the steps from the lasts of one part to the firsts of another
joins_to : (a b : FormulaTree) (n k : ℕ) (p q : Part) → IsPart a n p → IsPart b k q → (h : Hop) → IsHopIn p.lasts.items q.firsts.items h → Joins (IsLast a n) (IsFirst b k) h.from h.mark h.to
joins_to a b n k p q ip iq h s =
    let x : End = s.0 in
    let y : End = s.2.0 in
    subst (λ (w : Hop). Joins (IsLast a n) (IsFirst b k) w.from w.mark w.to) (sym s.2.2) (record { left = x.mark; right = y.mark; in_left = (ip.lasts_are x).0 s.1; in_right = (iq.firsts_are y).0 s.2.1; sum = refl })

joins_from : (a b : FormulaTree) (n k : ℕ) (p q : Part) → IsPart a n p → IsPart b k q → (h : Hop) → Joins (IsLast a n) (IsFirst b k) h.from h.mark h.to → IsHopIn p.lasts.items q.firsts.items h
joins_from a b n k p q ip iq h s = (
  record { state = h.from; mark = s.left },
  (ip.lasts_are (record { state = h.from; mark = s.left })).1 s.in_left,
  (record { state = h.to; mark = s.right }, (iq.firsts_are (record { state = h.to; mark = s.right })).1 s.in_right, λ i. record { from = h.from; mark = s.sum i; to = h.to }),
)

-- nothing comes to the list
pub no_hops : (covered : Bool) (f : FormulaTree) (n : ℕ) (hops : List Hop) → ((h : Hop) → IsFollowHop f n h → ⊥) → AddsFollow covered f n hops hops
no_hops covered f n hops none = record { keeps = λ h c. c; sound = λ h c. inl c; complete = λ h s. absurd (none h s) }

pub all_added : (old new : List Hop) (P : Hop → Type 0) → Adds old new P → (left_out : Bool) → AddsUnless left_out old new P
all_added old new P a left_out = record { keeps = λ h c. (a h).1 (inl c); sound = λ h c. (a h).0 c; complete = λ h s. inl ((a h).1 (inr s)) }

pub none_added : (left_out : Bool) (old : List Hop) (P : Hop → Type 0) → left_out ≡ true → AddsUnless left_out old old P
none_added left_out old P e = record { keeps = λ h c. c; sound = λ h c. inl c; complete = λ h s. inr e }

-- two additions to a list, one after the other
both_sound : (old mid new : List Hop) {P Q R : Hop → Type 0} → ((h : Hop) → Contains mid h → Contains old h ⊎ P h) → ((h : Hop) → Contains new h → Contains mid h ⊎ Q h) → ((h : Hop) → P h ⊎ Q h → R h) → (h : Hop) → Contains new h → Contains old h ⊎ R h
both_sound old mid new {P} {Q} {R} first second f h c = later (second h c)
  where
    earlier : Contains old h ⊎ P h → Contains old h ⊎ R h
    earlier (inl c) = inl c
    earlier (inr p) = inr (f h (inl p))

    later : Contains mid h ⊎ Q h → Contains old h ⊎ R h
    later (inl c) = earlier (first h c)
    later (inr q) = inr (f h (inr q))

-- what a star or a plus adds to the steps of its part
repeated : (a f : FormulaTree) (n : ℕ) (covered : Bool) (p : Part) (old mid new : List Hop)
    → ((h : Hop) → IsFollowHop f n h → IsFollowHop a n h ⊎ Joins (IsLast a n) (IsFirst a n) h.from h.mark h.to)
    → ((h : Hop) → IsFollowHop a n h ⊎ Joins (IsLast a n) (IsFirst a n) h.from h.mark h.to → IsFollowHop f n h)
    → ((h : Hop) → Joins (IsLast a n) (IsFirst a n) h.from h.mark h.to → Joins (IsLast f n) (IsFirst f n) h.from h.mark h.to)
    → AddsFollow true a n old mid → AddsUnless covered mid new (IsHopIn p.lasts.items p.firsts.items) → IsPart a n p → AddsFollow covered f n old new
repeated a f n covered p old mid new from_f to_f same inside joined ip = record {
  keeps = λ h c. joined.keeps h (inside.keeps h c);
  sound = both_sound old mid new inside.sound joined.sound added;
  complete = λ h s. whole h (from_f h s);
}
  where
    added : (h : Hop) → IsFollowHop a n h ⊎ IsHopIn p.lasts.items p.firsts.items h → IsFollowHop f n h
    added h (inl s) = to_f h (inl s)
    added h (inr s) = to_f h (inr (joins_to a a n n p p ip ip h s))

    closed : (h : Hop) → Joins (IsLast a n) (IsFirst a n) h.from h.mark h.to → Contains new h ⊎ (covered ≡ true) → Contains new h ⊎ ((covered ≡ true) × Joins (IsLast f n) (IsFirst f n) h.from h.mark h.to)
    closed h j (inl c) = inl c
    closed h j (inr e) = inr (e, same h j)

    around : (h : Hop) → Joins (IsLast a n) (IsFirst a n) h.from h.mark h.to → Contains new h ⊎ ((covered ≡ true) × Joins (IsLast f n) (IsFirst f n) h.from h.mark h.to)
    around h j = closed h j (joined.complete h (joins_from a a n n p p ip ip h j))

    within : (h : Hop) → Contains mid h ⊎ ((true ≡ true) × Joins (IsLast a n) (IsFirst a n) h.from h.mark h.to) → Contains new h ⊎ ((covered ≡ true) × Joins (IsLast f n) (IsFirst f n) h.from h.mark h.to)
    within h (inl c) = inl (joined.keeps h c)
    within h (inr j) = around h j.1

    whole : (h : Hop) → IsFollowHop a n h ⊎ Joins (IsLast a n) (IsFirst a n) h.from h.mark h.to → Contains new h ⊎ ((covered ≡ true) × Joins (IsLast f n) (IsFirst f n) h.from h.mark h.to)
    whole h (inl s) = within h (inside.complete h s)
    whole h (inr j) = around h j

pub star_hops : (a : FormulaTree) (n : ℕ) (covered : Bool) (p : Part) (old mid new : List Hop) → AddsFollow true a n old mid → AddsUnless covered mid new (IsHopIn p.lasts.items p.firsts.items) → IsPart a n p → AddsFollow covered (Star a) n old new
star_hops a n covered p old mid new = repeated a (Star a) n covered p old mid new (λ h s. s) (λ h s. s) (λ h j. j)

pub plus_hops : (a : FormulaTree) (n : ℕ) (covered : Bool) (p : Part) (old mid new : List Hop) → AddsFollow true a n old mid → AddsUnless covered mid new (IsHopIn p.lasts.items p.firsts.items) → IsPart a n p → AddsFollow covered (Plus a) n old new
plus_hops a n covered p old mid new = repeated a (Plus a) n covered p old mid new (λ h s. s) (λ h s. s) (λ h j. j)

pub opt_hops : (a : FormulaTree) (n : ℕ) (covered : Bool) (old new : List Hop) → AddsFollow covered a n old new → AddsFollow covered (Opt a) n old new
opt_hops a n covered old new s = record { keeps = s.keeps; sound = s.sound; complete = s.complete }

pub capture_hops : (x : ℕ) (a : FormulaTree) (n : ℕ) (covered : Bool) (old new : List Hop) → AddsFollow false a n old new → AddsFollow covered (Capture x a) n old new
capture_hops x a n covered old new s = record { keeps = s.keeps; sound = s.sound; complete = λ h f. all h (s.complete h f) }
  where
    all : (h : Hop) → Contains new h ⊎ ((false ≡ true) × Joins (IsLast a n) (IsFirst a n) h.from h.mark h.to) → Contains new h ⊎ ((covered ≡ true) × Joins (IsLast (Capture x a) n) (IsFirst (Capture x a) n) h.from h.mark h.to)
    all h (inl c) = inl c
    all h (inr e) = let bad : false ≡ true = e.0 in absurd (cc)

pub alt_hops : (a b : FormulaTree) (n : ℕ) (covered : Bool) (old mid new : List Hop) → AddsFollow covered a n old mid → AddsFollow covered b (n + sets a) mid new → AddsFollow covered (Alt a b) n old new
alt_hops a b n covered old mid new l r = record {
  keeps = λ h c. r.keeps h (l.keeps h c);
  sound = both_sound old mid new l.sound r.sound (λ h s. s);
  complete = λ h s. there h s;
}
  where
    of_left : (h : Hop) → Contains mid h ⊎ ((covered ≡ true) × Joins (IsLast a n) (IsFirst a n) h.from h.mark h.to) → Contains new h ⊎ ((covered ≡ true) × Joins (IsLast (Alt a b) n) (IsFirst (Alt a b) n) h.from h.mark h.to)
    of_left h (inl c) = inl (r.keeps h c)
    of_left h (inr j) = inr (j.0, record { left = j.1.left; right = j.1.right; in_left = inl j.1.in_left; in_right = inl j.1.in_right; sum = j.1.sum })

    of_right : (h : Hop) → Contains new h ⊎ ((covered ≡ true) × Joins (IsLast b (n + sets a)) (IsFirst b (n + sets a)) h.from h.mark h.to) → Contains new h ⊎ ((covered ≡ true) × Joins (IsLast (Alt a b) n) (IsFirst (Alt a b) n) h.from h.mark h.to)
    of_right h (inl c) = inl c
    of_right h (inr j) = inr (j.0, record { left = j.1.left; right = j.1.right; in_left = inr j.1.in_left; in_right = inr j.1.in_right; sum = j.1.sum })

    there : (h : Hop) → IsFollowHop (Alt a b) n h → Contains new h ⊎ ((covered ≡ true) × Joins (IsLast (Alt a b) n) (IsFirst (Alt a b) n) h.from h.mark h.to)
    there h (inl s) = of_left h (l.complete h s)
    there h (inr s) = of_right h (r.complete h s)

-- the last occurrences of a left part are among the last of the whole, and so on
from_left : (a b : FormulaTree) (n o m : ℕ) → IsNull b 0 → IsLast a n o m → IsLast (Cat a b) n o m
from_left a b n o m z l = let e : m ≡ m + 0 = omega arith in inr (record { left = m; right = 0; in_left = l; in_right = z; sum = e })

to_right : (a b : FormulaTree) (n m o : ℕ) → IsNull a 0 → IsFirst b (n + sets a) m o → IsFirst (Cat a b) n m o
to_right a b n m o z f = let e : m ≡ 0 + m = omega arith in inr (record { left = 0; right = m; in_left = z; in_right = f; sum = e })

pub cat_hops : (a b : FormulaTree) (n : ℕ) (covered left_covered right_covered : Bool) (p q : Part) (old one two new : List Hop)
    → CoversPart covered left_covered b → CoversPart covered right_covered a
    → AddsFollow left_covered a n old one → AddsFollow right_covered b (n + sets a) one two
    → AddsUnless (left_covered && right_covered) two new (IsHopIn p.lasts.items q.firsts.items)
    → IsPart a n p → IsPart b (n + sets a) q → AddsFollow covered (Cat a b) n old new
cat_hops a b n covered lc rc p q old one two new cl cr l r j ip iq = record {
  keeps = λ h c. j.keeps h (r.keeps h (l.keeps h c));
  sound = both_sound old one new l.sound (both_sound one two new r.sound j.sound added) (λ h s. s);
  complete = λ h s. there h s;
}
  where
    added : (h : Hop) → IsFollowHop b (n + sets a) h ⊎ IsHopIn p.lasts.items q.firsts.items h → IsFollowHop b (n + sets a) h ⊎ Joins (IsLast a n) (IsFirst b (n + sets a)) h.from h.mark h.to
    added h (inl s) = inl s
    added h (inr s) = inr (joins_to a b n (n + sets a) p q ip iq h s)

    of_left : (h : Hop) → Contains one h ⊎ ((lc ≡ true) × Joins (IsLast a n) (IsFirst a n) h.from h.mark h.to) → Contains new h ⊎ ((covered ≡ true) × Joins (IsLast (Cat a b) n) (IsFirst (Cat a b) n) h.from h.mark h.to)
    of_left h (inl c) = inl (j.keeps h (r.keeps h c))
    of_left h (inr x) = inr (cl.whole x.0, record { left = x.1.left; right = x.1.right; in_left = from_left a b n h.from x.1.left (cl.nothing x.0) x.1.in_left; in_right = inl x.1.in_right; sum = x.1.sum })

    of_right : (h : Hop) → Contains two h ⊎ ((rc ≡ true) × Joins (IsLast b (n + sets a)) (IsFirst b (n + sets a)) h.from h.mark h.to) → Contains new h ⊎ ((covered ≡ true) × Joins (IsLast (Cat a b) n) (IsFirst (Cat a b) n) h.from h.mark h.to)
    of_right h (inl c) = inl (j.keeps h c)
    of_right h (inr x) = inr (cr.whole x.0, record { left = x.1.left; right = x.1.right; in_left = inl x.1.in_left; in_right = to_right a b n x.1.right h.to (cr.nothing x.0) x.1.in_right; sum = x.1.sum })

    both_true : (x y : Bool) → x && y ≡ true → (x ≡ true) × (y ≡ true)
    both_true true y e = (refl, e)
    both_true false y e = let bad : false ≡ true = e in absurd (cc)

    of_joins : (h : Hop) → Joins (IsLast a n) (IsFirst b (n + sets a)) h.from h.mark h.to → Contains new h ⊎ (lc && rc ≡ true) → Contains new h ⊎ ((covered ≡ true) × Joins (IsLast (Cat a b) n) (IsFirst (Cat a b) n) h.from h.mark h.to)
    of_joins h x (inl c) = inl c
    of_joins h x (inr e) =
        let t = both_true lc rc e in
        inr (cl.whole t.0, record { left = x.left; right = x.right; in_left = from_left a b n h.from x.left (cl.nothing t.0) x.in_left; in_right = to_right a b n x.right h.to (cr.nothing t.1) x.in_right; sum = x.sum })

    there : (h : Hop) → IsFollowHop (Cat a b) n h → Contains new h ⊎ ((covered ≡ true) × Joins (IsLast (Cat a b) n) (IsFirst (Cat a b) n) h.from h.mark h.to)
    there h (inl s) = of_left h (l.complete h s)
    there h (inr (inl s)) = of_right h (r.complete h s)
    there h (inr (inr s)) = of_joins h s (j.complete h (joins_from a b n (n + sets a) p q ip iq h s))

-- if nothing is left out, exactly the steps of the formula are added
pub follow_added : (f : FormulaTree) (n : ℕ) (old new : List Hop) → AddsFollow false f n old new → Adds old new (IsFollowHop f n)
follow_added f n old new s h = (λ c. s.sound h c, λ c. back c)
  where
    all : Contains new h ⊎ ((false ≡ true) × Joins (IsLast f n) (IsFirst f n) h.from h.mark h.to) → Contains new h
    all (inl c) = c
    all (inr e) = let bad : false ≡ true = e.0 in absurd (cc)

    back : Contains old h ⊎ IsFollowHop f n h → Contains new h
    back (inl c) = s.keeps h c
    back (inr x) = all (s.complete h x)
