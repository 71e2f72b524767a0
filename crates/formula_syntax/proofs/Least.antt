-- The least variable that passes a test, and the rule.
use Rattle.std.proofs.Common.{◌≡◌, ℕ, zero, suc, ◌+◌, ◌-◌, ◌<◌, ◌≤◌, Bool, true, false, Option, Some, None, refl, ◌∙◌, arith, add-suc, add-zero, add-one, subst, ⊎_elim, inl, inr, ◌⊎◌}
use Rattle.std.proofs.lemmas.Bool.Decides.{nat_tests}
use Rattle.std.proofs.lemmas.Bool.{cases_lt}
use Rattle.std.specs.Prelude.{◌==◌, ◌||◌, ◌&&◌}
use Rattle.span_types.specs.FormulaTree.{FormulaTree, Set, Empty, Cat, Alt, Star, Plus, Opt, Capture, has_var, var_bound, first_of, least_below, fault}
use Rattle.formula_syntax.specs.Below.{Below}

pub first_none : (o : Option ℕ) → first_of o None ≡ o
first_none None = refl
first_none (Some v) = refl

pub first_assoc : (a b c : Option ℕ) → first_of (first_of a b) c ≡ first_of a (first_of b c)
first_assoc None b c = refl
first_assoc (Some v) b c = refl

pub least_none_more : (n : ℕ) (p : ℕ → Bool) → least_below n p ≡ None → p n ≡ false → least_below (n + 1) p ≡ None
least_none_more n p h e = rw (add-one, h, e) refl

pub least_here : (n v : ℕ) (p : ℕ → Bool) → v < n → least_below v p ≡ None → p v ≡ true → least_below n p ≡ Some v
least_here zero v p lt h e = absurd (omega arith)
least_here (suc n) v p lt h e = ⊎_elim (λ less. rw (least_here n v p less h e) refl) (λ same. rw (← same, h, e) refl) (split v n lt)
  where
    split : (v n : ℕ) → v < suc n → (v < n) ⊎ (v ≡ n)
    split v n h = ⊎_elim (λ x. inl x) (λ x. inr (omega arith)) (cases_lt v n)

least_same : (k n : ℕ) (p : ℕ → Bool) → ((v : ℕ) → n ≤ v → p v ≡ false) → least_below (n + k) p ≡ least_below n p
least_same zero n p h = rw add-zero refl
least_same (suc k) n p h = rw (add-suc, h (n + k) (omega arith)) (first_none (least_below (n + k) p) ∙ least_same k n p h)

or_both : (a b : Bool) → a ≡ false → b ≡ false → (a || b) ≡ false
or_both a b e f = rw (e, f) refl

outside : (f : FormulaTree) (v : ℕ) → var_bound f ≤ v → has_var f v ≡ false
outside (Set b) v h = refl
outside Empty v h = refl
outside (Cat a b) v h = or_both _ _ (outside a v (omega arith)) (outside b v (omega arith))
outside (Alt a b) v h = or_both _ _ (outside a v (omega arith)) (outside b v (omega arith))
outside (Star a) v h = outside a v h
outside (Plus a) v h = outside a v h
outside (Opt a) v h = outside a v h
outside (Capture x a) v h = let other : (x == v) ≡ false = grind (arith, nat_tests) in or_both _ _ other (outside a v (omega arith))

bound_small : (f : FormulaTree) → Below 8 f → var_bound f ≤ 8
bound_small (Set b) h = omega arith
bound_small Empty h = omega arith
bound_small (Cat a b) h = let x = bound_small a h.0 in let y = bound_small b h.1 in omega arith
bound_small (Alt a b) h = let x = bound_small a h.0 in let y = bound_small b h.1 in omega arith
bound_small (Star a) h = bound_small a h
bound_small (Plus a) h = bound_small a h
bound_small (Opt a) h = bound_small a h
bound_small (Capture x a) h = let y = bound_small a h.1 in let z = h.0 in omega arith

-- the bound of a formula or 8
pub eight : (f : FormulaTree) (p : ℕ → Bool) → Below 8 f → ((v : ℕ) → has_var f v ≡ false → p v ≡ false) → least_below 8 p ≡ least_below (var_bound f) p
eight f p b h =
    let le = bound_small f b in
    let sum : var_bound f + (8 - var_bound f) ≡ 8 = omega arith in
    subst (λ z. least_below z p ≡ least_below (var_bound f) p) sum (least_same (8 - var_bound f) (var_bound f) p (λ v k. h v (outside f v k)))

pub and_false : (a b : Bool) → a ≡ false → (a && b) ≡ false
and_false a b e = rw e refl

pub and_two : (a b : Bool) → a ≡ true → b ≡ true → (a && b) ≡ true
and_two a b e f = rw (e, f) refl

pub and_same : (a : Bool) → (a && a) ≡ a
and_same true = refl
and_same false = refl

pub repeat_fault : (f : FormulaTree) (fa lc : Option ℕ) → Below 8 f → fa ≡ fault f → lc ≡ least_below 8 (has_var f) → first_of fa lc ≡ first_of (fault f) (least_below (var_bound f) (has_var f))
repeat_fault f fa lc b e h = rw (e, h, eight f (has_var f) b (λ v q. q)) refl

pub both_fault : (f g : FormulaTree) (fa ga lc : Option ℕ) → Below 8 f → fa ≡ fault f → ga ≡ fault g → lc ≡ least_below 8 (λ v. has_var f v && has_var g v) → first_of (first_of fa ga) lc ≡ fault (Cat f g)
both_fault f g fa ga lc b e h k = first_assoc fa ga lc ∙ rw (e, h, k, eight f (λ v. has_var f v && has_var g v) b (λ v q. and_false (has_var f v) (has_var g v) q)) refl
