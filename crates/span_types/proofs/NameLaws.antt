-- Names, and tuples that are read by names.
use Rattle.std.proofs.Common.{◌≡◌, ◌≢◌, ℕ, zero, suc, ◌<◌, ◌==◌, ◌&&◌, ◌||◌, Bool, true, false, List, [], ◌∷◌, length, Option, None, Contains, if◌then◌else◌, refl, sym, ap, subst, ◌∙◌, arith, eq-eqb, get_or}
use Rattle.std.specs.Prelude.{AllPairs}
use Rattle.std.proofs.lemmas.Bool.{eqb-true}
use Rattle.span_types.specs.declared.tuple.Span.{Span}
use Rattle.span_types.specs.Rel.{same_name, has_name, named}

pub same-self : (n : List ℕ) → same_name n n ≡ true
same-self [] = refl
same-self (x ∷ n) = ap (λ b. b && same_name n n) (eq-eqb x x refl) ∙ same-self n

both : (x y : Bool) → (x && y) ≡ true → (x ≡ true) × (y ≡ true)
both true y h = (refl, h)
both false y h = let bad : ⊥ = cc in absurd bad

pub same-is : (m n : List ℕ) → same_name m n ≡ true → m ≡ n
same-is [] [] h = refl
same-is [] (y ∷ n) h = let bad : ⊥ = cc in absurd bad
same-is (x ∷ m) [] h = let bad : ⊥ = cc in absurd bad
same-is (x ∷ m) (y ∷ n) h =
    let parts = both (x == y) (same_name m n) h in
    let e : x ≡ y = eqb-true x y parts.0 in
    let f = same-is m n parts.1 in
    λ i. e i ∷ f i

-- no name occurs twice
abbrev pub AreApart : List (List ℕ) → Type 0
AreApart [] = Unit {0}
AreApart (n ∷ ns) = (has_name ns n ≡ false) × AreApart ns

lacks : (m : List ℕ) (ns : List (List ℕ)) → ((k : ℕ) (d : List ℕ) → k < length ns → m ≢ get_or ns k d) → has_name ns m ≡ false
lacks m [] h = refl
lacks m (n ∷ ns) h = by (same_name n m) refl (lacks m ns (λ k d lt. h (suc k) d (omega (arith, lt))))
  where
    by : (b : Bool) → same_name n m ≡ b → has_name ns m ≡ false → (b || has_name ns m) ≡ false
    by true e r = absurd (h 0 [] (omega arith) (sym (same-is n m e)))
    by false e r = r

pub apart : (ns : List (List ℕ)) → AllPairs (λ a b. a ≢ b) ns → AreApart ns
apart [] h = tt
apart (n ∷ ns) h = (lacks n ns (λ k d lt. h 0 (suc k) d (omega arith) (omega (arith, lt))), apart ns (λ i j d a b. h (suc i) (suc j) d (omega (arith, a)) (omega (arith, b))))

pub named-none : (ns : List (List ℕ)) (t : List (Option Span)) (n : List ℕ) → has_name ns n ≡ false → named ns t n ≡ None
named-none [] t n h = refl
named-none (m ∷ ms) [] n h = refl
named-none (m ∷ ms) (x ∷ t) n h = by (same_name m n) h (λ r. named-none ms t n r)
  where
    by : (b : Bool) → (b || has_name ms n) ≡ false → (has_name ms n ≡ false → named ms t n ≡ None) → (if b then x else named ms t n) ≡ None
    by true h rest = let bad : ⊥ = cc in absurd bad
    by false h rest = rest h

-- a tuple is determined by the spans that it assigns to distinct names
pub named-tells : (ns : List (List ℕ)) (t u : List (Option Span)) → AreApart ns → length t ≡ length ns → length u ≡ length ns → ((n : List ℕ) → named ns t n ≡ named ns u n) → t ≡ u
named-tells [] [] [] a lt lu h = refl
named-tells [] [] (y ∷ u) a lt lu h = absurd (omega (arith, lu))
named-tells [] (x ∷ t) u a lt lu h = absurd (omega (arith, lt))
named-tells (m ∷ ms) [] u a lt lu h = absurd (omega (arith, lt))
named-tells (m ∷ ms) (x ∷ t) [] a lt lu h = absurd (omega (arith, lu))
named-tells (m ∷ ms) (x ∷ t) (y ∷ u) a lt lu h =
    let head : x ≡ y = sym (ap (λ b. if b then x else named ms t m) (same-self m)) ∙ h m ∙ ap (λ b. if b then y else named ms u m) (same-self m) in
    let tail = named-tells ms t u a.1 (omega (arith, lt)) (omega (arith, lu)) (λ n. rest n (same_name m n) refl (h n)) in
    λ i. head i ∷ tail i
  where
    rest : (n : List ℕ) (b : Bool) → same_name m n ≡ b → (if b then x else named ms t n) ≡ (if b then y else named ms u n) → named ms t n ≡ named ms u n
    rest n false e g = g
    rest n true e g =
        let i : has_name ms n ≡ false = subst (λ k. has_name ms k ≡ false) (same-is m n e) a.0 in
        named-none ms t n i ∙ sym (named-none ms u n i)

-- whether a list has a name
pub has-contains : (ns : List (List ℕ)) (n : List ℕ) → has_name ns n ≡ true → Contains ns n
has-contains [] n h = let bad : ⊥ = cc in absurd bad
has-contains (m ∷ ns) n h = by (same_name m n) refl h (has-contains ns n)
  where
    by : (b : Bool) → same_name m n ≡ b → (b || has_name ns n) ≡ true → (has_name ns n ≡ true → Contains ns n) → Contains (m ∷ ns) n
    by true e g rec = (0, omega arith, same-is m n e)
    by false e g rec = let c = rec g in (suc c.0, omega (arith, c.1), c.2)

pub contains-has : (ns : List (List ℕ)) (n : List ℕ) → Contains ns n → has_name ns n ≡ true
contains-has [] n c = absurd (omega (arith, c.1))
contains-has (m ∷ ns) n (zero, lt, e) = let s : m ≡ n = e in let t : same_name m n ≡ true = ap (λ x. same_name x n) s ∙ same-self n in ap (λ b. b || has_name ns n) t
contains-has (m ∷ ns) n (suc k, lt, e) = by (same_name m n) (contains-has ns n (k, omega (arith, lt), e))
  where
    by : (b : Bool) → has_name ns n ≡ true → (b || has_name ns n) ≡ true
    by true g = refl
    by false g = g
