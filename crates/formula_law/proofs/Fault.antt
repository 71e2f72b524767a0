-- What it means that a formula has no fault.
use Rattle.std.proofs.Common.{◌≡◌, ℕ, zero, suc, ◌<◌, max, Bool, true, false, ◌||◌, ◌&&◌, ◌==◌, ◌⊎◌, inl, inr, refl, sym, ap, ◌∙◌, arith, Option, Some, None, if◌then◌else◌}
use Rattle.std.proofs.lemmas.Bool.Decides.{eqb_tells}
use Rattle.span_types.specs.FormulaTree.{FormulaTree, Set, Empty, Cat, Alt, Star, Plus, Opt, Capture, has_var, var_bound, first_of, least_below, fault, Fun}
use Rattle.formula_law.proofs.Ranges.{NoVars}
use Rattle.formula_law.proofs.Decompose.{StarsPlain}

abbrev pub Apart : FormulaTree → FormulaTree → Type 0
Apart a b = (v : ℕ) → has_var a v ≡ true → has_var b v ≡ true → ⊥

-- the rule, by the parts of the formula
abbrev pub Plain : FormulaTree → Type 0
Plain (Set b) = Unit {0}
Plain Empty = Unit {0}
Plain (Cat a b) = Plain a × Plain b × Apart a b
Plain (Alt a b) = Plain a × Plain b
Plain (Star a) = Plain a × NoVars a
Plain (Plus a) = Plain a × NoVars a
Plain (Opt a) = Plain a
Plain (Capture x a) = Plain a × (has_var a x ≡ false)

pub first_none : (o p : Option ℕ) → first_of o p ≡ None → (o ≡ None) × (p ≡ None)
first_none None p h = (refl, h)
first_none (Some v) p h = absurd (cc)

pick_none : (b : Bool) (v : ℕ) → (if b then Some v else None) ≡ None → b ≡ false
pick_none true v h = absurd (cc)
pick_none false v h = refl

least_none : (n : ℕ) (p : ℕ → Bool) → least_below n p ≡ None → (v : ℕ) → v < n → p v ≡ false
least_none zero p h v lt = absurd (omega arith)
least_none (suc n) p h v lt =
    let k = first_none (least_below n p) (if p n then Some n else None) h in
    go (eqb_tells v n) (λ l. least_none n p k.0 v l) (pick_none (p n) n k.1)
  where
    go : ((v == n ≡ true) × (v ≡ n)) ⊎ ((v == n ≡ false) × (v ≡ n → ⊥)) → (v < n → p v ≡ false) → p n ≡ false → p v ≡ false
    go (inl e) low here = ap p e.1 ∙ here
    go (inr e) low here = let ne = e.1 in low (lower ne)
      where
        lower : (v ≡ n → ⊥) → v < n
        lower ne = grind arith

or_cases : {R : Type 0} (a b : Bool) → a || b ≡ true → (a ≡ true → R) → (b ≡ true → R) → R
or_cases true b h f g = f refl
or_cases false b h f g = g h

pub var_below : (f : FormulaTree) (v : ℕ) → has_var f v ≡ true → v < var_bound f
var_below (Set b) v h = absurd (cc)
var_below Empty v h = absurd (cc)
var_below (Cat a b) v h =
    or_cases (has_var a v) (has_var b v) h (λ k. let l = var_below a v k in omega (arith, l)) (λ k. let l = var_below b v k in omega (arith, l))
var_below (Alt a b) v h =
    or_cases (has_var a v) (has_var b v) h (λ k. let l = var_below a v k in omega (arith, l)) (λ k. let l = var_below b v k in omega (arith, l))
var_below (Star a) v h = var_below a v h
var_below (Plus a) v h = var_below a v h
var_below (Opt a) v h = var_below a v h
var_below (Capture x a) v h =
    or_cases (x == v) (has_var a v) h (λ k. named_below x v (var_bound a) k) (λ k. let l = var_below a v k in omega (arith, l))
  where
    named_below : (x v m : ℕ) → x == v ≡ true → v < max (suc x) m
    named_below x v m k = go (eqb_tells x v)
      where
        go : ((x == v ≡ true) × (x ≡ v)) ⊎ ((x == v ≡ false) × (x ≡ v → ⊥)) → v < max (suc x) m
        go (inl e) = omega (arith, e.1)
        go (inr e) = let bad : true ≡ false = sym k ∙ e.0 in absurd (cc)

not_true : (b : Bool) → (b ≡ true → ⊥) → b ≡ false
not_true true h = absurd (h refl)
not_true false h = refl

none_below : (a : FormulaTree) → ((v : ℕ) → v < var_bound a → has_var a v ≡ false) → NoVars a
none_below a h = record { none = λ v. not_true (has_var a v) (λ t. bad (has_var a v) t (h v (var_below a v t))) }
  where
    bad : (b : Bool) → b ≡ true → b ≡ false → ⊥
    bad b t f = let e : true ≡ false = sym t ∙ f in cc

and_false : (a b : Bool) → a && b ≡ false → a ≡ true → b ≡ true → ⊥
and_false true true h e g = cc
and_false true false h e g = cc
and_false false b h e g = cc

pub plain : (f : FormulaTree) → Fun f → Plain f
plain (Set b) h = tt
plain Empty h = tt
plain (Cat a b) h =
    let k = first_none (fault a) _ h in
    let l = first_none (fault b) _ k.1 in
    let m = least_none (var_bound a) (λ v. has_var a v && has_var b v) l.1 in
    (plain a k.0, plain b l.0, λ v x y. and_false (has_var a v) (has_var b v) (m v (var_below a v x)) x y)
plain (Alt a b) h = let k = first_none (fault a) (fault b) h in (plain a k.0, plain b k.1)
plain (Star a) h =
    let k = first_none (fault a) _ h in
    (plain a k.0, none_below a (λ v l. least_none (var_bound a) (has_var a) k.1 v l))
plain (Plus a) h =
    let k = first_none (fault a) _ h in
    (plain a k.0, none_below a (λ v l. least_none (var_bound a) (has_var a) k.1 v l))
plain (Opt a) h = plain a h
plain (Capture x a) h =
    let k = first_none (fault a) _ h in
    (plain a k.0, pick_none (has_var a x) x k.1)

pub stars_plain : (f : FormulaTree) → Plain f → StarsPlain f
stars_plain (Set b) h = tt
stars_plain Empty h = tt
stars_plain (Cat a b) h = (stars_plain a h.0, stars_plain b h.1)
stars_plain (Alt a b) h = (stars_plain a h.0, stars_plain b h.1)
stars_plain (Star a) h = (stars_plain a h.0, h.1)
stars_plain (Plus a) h = (stars_plain a h.0, h.1)
stars_plain (Opt a) h = stars_plain a h
stars_plain (Capture x a) h = stars_plain a h.0
