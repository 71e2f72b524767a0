-- A formula has one list of answers.
use Rattle.std.proofs.Common.{◌≡◌, ℕ, zero, suc, ◌⊎◌, inl, inr, List, [], ◌∷◌, length, Option, refl, sym, subst, ◌∙◌, arith}
use Rattle.std.specs.Prelude.{Contains}
use Rattle.span_types.specs.declared.tuple.Span.{Span}
use Rattle.span_types.specs.FormulaTree.{FormulaTree}
use Rattle.span_types.specs.Marks.{Comes}
use Rattle.span_types.specs.Answers.{IsRising, IsAnswers}
use Rattle.span_types.proofs.OrderLaws.{irreflexive, transitive}

abbrev pub Places : Type 0
Places = List (Option Span)

pub split-member : (x : Places) (xs : List Places) (z : Places) → Contains (x ∷ xs) z → (x ≡ z) ⊎ Contains xs z
split-member x xs z (zero, lt, e) = inl e
split-member x xs z (suc k, lt, e) = inr (k, omega (arith, lt), e)

pub here : (x : Places) (xs : List Places) → Contains (x ∷ xs) x
here x xs = (zero, omega arith, refl)

pub there : (x : Places) (xs : List Places) (z : Places) → Contains xs z → Contains (x ∷ xs) z
there x xs z (k, lt, e) = (suc k, omega (arith, lt), e)

no-member : (z : Places) → Contains [] z → ⊥
no-member z (k, lt, e) = omega (arith, lt)

rising-tail : (x : Places) (xs : List Places) → IsRising (x ∷ xs) → IsRising xs
rising-tail x xs h i j d lt l = h (suc i) (suc j) d (omega (arith, lt)) (omega (arith, l))

rising-head : (x : Places) (xs : List Places) (z : Places) → IsRising (x ∷ xs) → Contains xs z → Comes x z
rising-head x xs z h (k, lt, e) = subst (Comes x) e (h 0 (suc k) z (omega arith) (omega (arith, lt)))

pub one-rising : (k : ℕ) (ts us : List Places) → IsRising ts → IsRising us → ((t : Places) → Contains ts t → length t ≡ k) → ((t : Places) → Contains ts t → Contains us t) → ((t : Places) → Contains us t → Contains ts t) → ts ≡ us
one-rising k [] [] ht hu size to from = refl
one-rising k [] (y ∷ ys) ht hu size to from = absurd (no-member y (from y (here y ys)))
one-rising k (x ∷ xs) [] ht hu size to from = absurd (no-member x (to x (here x xs)))
one-rising k (x ∷ xs) (y ∷ ys) ht hu size to from =
    let same = heads (split-member y ys x (to x (here x xs))) (split-member x xs y (from y (here y ys))) in
    let rest = one-rising k xs ys (rising-tail x xs ht) (rising-tail y ys hu) (λ t h. size t (there x xs t h))
    (λ z h. onward z h same (split-member y ys z (to z (there x xs z h))))
    (λ z h. back z h same (split-member x xs z (from z (there y ys z h)))) in
    λ i. same i ∷ rest i
  where
    heads : (y ≡ x) ⊎ Contains ys x → (x ≡ y) ⊎ Contains xs y → x ≡ y
    heads (inl e) o = sym e
    heads (inr a) (inl e) = e
    heads (inr a) (inr b) = absurd (irreflexive x (transitive x y x (size x (here x xs) ∙ sym (size y (there x xs y b))) (rising-head x xs y ht b) (rising-head y ys x hu a)))

    onward : (z : Places) → Contains xs z → x ≡ y → (y ≡ z) ⊎ Contains ys z → Contains ys z
    onward z h e (inr a) = a
    onward z h e (inl f) = absurd (irreflexive z (subst (λ w. Comes w z) (e ∙ f) (rising-head x xs z ht h)))

    back : (z : Places) → Contains ys z → x ≡ y → (x ≡ z) ⊎ Contains xs z → Contains xs z
    back z h e (inr a) = a
    back z h e (inl f) = absurd (irreflexive z (subst (λ w. Comes w z) (sym e ∙ f) (rising-head y ys z hu h)))

pub one-answers : (f : FormulaTree) (k : ℕ) (s : List ℕ) (ts us : List Places) → IsAnswers f k s ts → IsAnswers f k s us → ts ≡ us
one-answers f k s ts us a b = one-rising k ts us a.rising b.rising (λ t h. ((a.members t).0 h).0) (λ t h. (b.members t).1 ((a.members t).0 h)) (λ t h. (a.members t).1 ((b.members t).0 h))
