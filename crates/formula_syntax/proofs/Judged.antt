-- The limits and the rule.
use Rattle.std.proofs.Common.{◌≡◌, ℕ, zero, suc, ◌<◌, ◌≤◌, Bool, true, false, List, [], ◌∷◌, length, take, Option, Some, None, Err, refl, sym, ap, ◌∙◌, arith, subst, ◌⊎◌, inl, inr, ⊎_elim, true≢false}
use Rattle.std.proofs.lemmas.Bool.Decides.{nat_tests}
use Rattle.std.specs.Prelude.{◌||◌, ◌&&◌, ◌==◌, nat_lt, if◌then◌else◌}
use Rattle.std.proofs.lemmas.Bool.{eqb-true}
use Rattle.formula_syntax.specs.Numbering.{Names}
use Rattle.span_types.specs.FormulaTree.{FormulaTree, Set, Empty, Cat, Alt, Star, Plus, Opt, Capture, has_var, var_bound, first_of, least_below, fault}
use Rattle.formula_syntax.specs.Below.{Below}
use Rattle.formula_syntax.specs.FormulaOf.{FormulaOf, NotFunctional, Says}
use Rattle.formula_syntax.specs.View.{IsCopy}
use Rattle.formula_syntax.specs.declared.refusal.FormulaRefusal as refusal

or_cases : (a b : Bool) → (a || b) ≡ true → (a ≡ true) ⊎ (b ≡ true)
or_cases true b h = inl refl
or_cases false b h = inr h

has_below : (k : ℕ) (f : FormulaTree) (v : ℕ) → Below k f → has_var f v ≡ true → v < k
has_below k (Set b) v h e = absurd (true≢false (sym e))
has_below k Empty v h e = absurd (true≢false (sym e))
has_below k (Cat a b) v h e = ⊎_elim (λ x. has_below k a v h.0 x) (λ x. has_below k b v h.1 x) (or_cases (has_var a v) (has_var b v) e)
has_below k (Alt a b) v h e = ⊎_elim (λ x. has_below k a v h.0 x) (λ x. has_below k b v h.1 x) (or_cases (has_var a v) (has_var b v) e)
has_below k (Star a) v h e = has_below k a v h e
has_below k (Plus a) v h e = has_below k a v h e
has_below k (Opt a) v h e = has_below k a v h e
has_below k (Capture x a) v h e = ⊎_elim (λ t. let s : x ≡ v = eqb-true x v t in let lt = h.0 in omega arith) (λ t. has_below k a v h.1 t) (or_cases (x == v) (has_var a v) e)

first_cases : (a b : Option ℕ) (v : ℕ) → first_of a b ≡ Some v → (a ≡ Some v) ⊎ (b ≡ Some v)
first_cases None b v h = inr h
first_cases (Some w) b v h = inl h

chosen : (t : Bool) (n v : ℕ) → (if t then Some n else None) ≡ Some v → (t ≡ true) × (n ≡ v)
chosen true n v h = let s : n ≡ v = cc in (refl, s)
chosen false n v h = cc

least_some : (n : ℕ) (p : ℕ → Bool) (v : ℕ) → least_below n p ≡ Some v → p v ≡ true
least_some zero p v h = cc
least_some (suc n) p v h = ⊎_elim (λ x. least_some n p v x) (λ x. let y = chosen (p n) n v x in ap p (sym y.1) ∙ y.0) (first_cases (least_below n p) _ v h)

and_first : (a b : Bool) → (a && b) ≡ true → a ≡ true
and_first true b h = refl
and_first false b h = h

pub fault_below : (k : ℕ) (f : FormulaTree) (v : ℕ) → Below k f → fault f ≡ Some v → v < k
fault_below k (Set b) v h e = cc
fault_below k Empty v h e = cc
fault_below k (Cat a b) v h e =
    ⊎_elim (λ x. fault_below k a v h.0 x) (λ x. ⊎_elim (λ y. fault_below k b v h.1 y) (λ y. has_below k a v h.0 (and_first (has_var a v) (has_var b v) (least_some (var_bound a) (λ z. has_var a z && has_var b z) v y))) (first_cases (fault b) _ v x)) (first_cases (fault a) _ v e)
fault_below k (Alt a b) v h e = ⊎_elim (λ x. fault_below k a v h.0 x) (λ x. fault_below k b v h.1 x) (first_cases (fault a) (fault b) v e)
fault_below k (Star a) v h e = ⊎_elim (λ x. fault_below k a v h x) (λ x. has_below k a v h (least_some (var_bound a) (has_var a) v x)) (first_cases (fault a) _ v e)
fault_below k (Plus a) v h e = ⊎_elim (λ x. fault_below k a v h x) (λ x. has_below k a v h (least_some (var_bound a) (has_var a) v x)) (first_cases (fault a) _ v e)
fault_below k (Opt a) v h e = fault_below k a v h e
fault_below k (Capture x a) v h e = ⊎_elim (λ y. fault_below k a v h.1 y) (λ y. let z = chosen (has_var a x) x v y in let lt = h.0 in let s = z.1 in omega arith) (first_cases (fault a) _ v e)

pub says_copy : (r : refusal.FormulaRefusal) (name s : List ℕ) → IsCopy r name → FormulaOf s (NotFunctional name) → Says (Err r) s
says_copy (refusal.TheVariants.NotFunctional x) name s e h = subst (λ z. FormulaOf s (NotFunctional z)) (sym e) h
says_copy refusal.TheVariants.NoMemory name s e h = tt
says_copy (refusal.TheVariants.TooLong len) name s e h = absurd e
says_copy refusal.TheVariants.BadText name s e h = absurd e
says_copy refusal.TheVariants.TooDeep name s e h = absurd e
says_copy refusal.TheVariants.TooManyPositions name s e h = absurd e
says_copy refusal.TheVariants.TooManyVariables name s e h = absurd e

pub take_few : (n : ℕ) (ys : Names) → length ys ≤ n → take n ys ≡ ys
take_few zero [] h = refl
take_few (suc n) [] h = refl
take_few zero (y ∷ ys) h = absurd (omega arith)
take_few (suc n) (y ∷ ys) h = ap (λ z. y ∷ z) (take_few n ys (omega arith))

pub few : (n : ℕ) → nat_lt 8 n ≡ false → n ≤ 8
few n h = grind (arith, nat_tests)

pub many : (n : ℕ) → nat_lt 8 n ≡ true → 8 < n
many n h = grind (arith, nat_tests)
