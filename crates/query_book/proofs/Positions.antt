-- The part of a list of answers from a position on.
use Rattle.std.proofs.Common.{◌≡◌, ◌⊎◌, inl, inr, ℕ, zero, suc, ◌+◌, ◌<◌, ◌≤◌, List, [], ◌++◌, length, get_or, take, drop, slice_get, Option, Some, None, Contains, refl, sym, ap, subst, ◌∙◌, arith, append-nil, get_or-drop, get_or-take, length-drop}
use Rattle.std.specs.Prelude.{unwrap_or}
use Rattle.std.proofs.lemmas.Bool.{cases_lt}
use Rattle.std.proofs.lemmas.List.{length-take, take-append-drop}
use Rattle.std.proofs.lemmas.Option.{get_or_from_slice_get, slice_get_within, slice_get-get_or}
use Rattle.std.proofs.Math.ListN.{drop_of_length-le}
use Rattle.span_types.specs.Answers.{IsAfter, IsRising}
use Rattle.span_types.specs.Marks.{Comes, mark, part_of, spans_of}
use Rattle.span_types.specs.Writes.{blanks}
use Rattle.span_types.proofs.OrderLaws.{irreflexive, marked_first, transitive}
use Rattle.span_enum.specs.Members.{Tuple}

some_is : {X : Type 0} {x y : X} → Some x ≡ Some y → x ≡ y
some_is {X} {x} p = ap (λ o. unwrap_or o x) p

none-some : {X : Type 0} (x : X) → ◌≡◌ {A = Option X} (Some x) None → ⊥
none-some x e = let bad : ⊥ = cc e in bad

-- a cut at a tuple
after-cut : (all prefix rest : List Tuple) (c : Tuple) → all ≡ prefix ++ rest → ((t : Tuple) → Contains prefix t → Comes c t → ⊥) → ((t : Tuple) → Contains rest t → Comes c t) → IsAfter all (Some c) rest
after-cut all prefix rest c whole passed left = record {
  prefix = prefix;
  cut = whole;
  start = λ e. absurd (none-some c e);
  passed = λ d t e m b. passed t m (subst (λ z. Comes z t) (sym (some_is e)) b);
  left = λ d t e m. subst (λ z. Comes z t) (some_is e) (left t m);
}

-- the tuples after the one at an index are those that come after it
pub after-at : (all : List Tuple) (n : ℕ) (c : Tuple) → IsRising all → ((t : Tuple) → Contains all t → length t ≡ length c) → slice_get all n ≡ Some c → IsAfter all (Some c) (drop (suc n) all)
after-at all n c rising sizes at = after-cut all (take (suc n) all) (drop (suc n) all) c (sym (take-append-drop (suc n) all)) passed left
  where
    within : n < length all
    within = slice_get_within all n c at

    here : (d : Tuple) → get_or all n d ≡ c
    here d = get_or_from_slice_get all n c d at

    passed : (t : Tuple) → Contains (take (suc n) all) t → Comes c t → ⊥
    passed t m comes = by (cases_lt m.0 n)
      where
        low : m.0 < suc n
        low = omega (arith, m.1, length-take (suc n) all)

        there : get_or all m.0 t ≡ t
        there = sym (get_or-take (suc n) all m.0 t low) ∙ m.2

        size : length t ≡ length c
        size = sizes t (m.0, omega (arith, low, within), there)

        by : (m.0 < n) ⊎ (n ≤ m.0) → ⊥
        by (inl lt) = irreflexive t (transitive t c t size (subst (λ x. Comes t x) (here t) (subst (λ x. Comes x (get_or all n t)) there (rising m.0 n t lt within))) comes)
        by (inr le) =
            let e : m.0 ≡ n = omega (arith, low, le) in
            irreflexive c (subst (λ x. Comes c x) (sym there ∙ ap (λ i. get_or all i t) e ∙ here t) comes)

    left : (t : Tuple) → Contains (drop (suc n) all) t → Comes c t
    left t m =
        let low : suc n + m.0 < length all = omega (arith, m.1, length-drop (suc n) all) in
        let there : get_or all (suc n + m.0) t ≡ t = sym (get_or-drop (suc n) all m.0 t) ∙ m.2 in
        subst (λ x. Comes c x) there (subst (λ x. Comes x (get_or all (suc n + m.0) t)) (here t) (rising n (suc n + m.0) t (omega arith) low))

blank-span : (k j : ℕ) → spans_of (blanks k) j ≡ None
blank-span zero j = refl
blank-span (suc k) zero = refl
blank-span (suc k) (suc j) = blank-span k j

blank-mark : (k j p : ℕ) → mark j (spans_of (blanks k)) p ≡ 0
blank-mark k zero p = refl
blank-mark k (suc j) p = omega (arith, blank-mark k j p, ap (λ o. part_of j o p) (blank-span k j))

-- no tuple comes after the one without marks
pub after-last : (all : List Tuple) (n k : ℕ) → slice_get all n ≡ None → IsAfter all (Some (blanks k)) (drop (suc n) all)
after-last all n k none =
    after-cut all all (drop (suc n) all) (blanks k) (sym (append-nil all) ∙ ap (λ r. all ++ r) (sym empty))
    (λ t m comes. omega (arith, marked_first (blanks k) t comes, blank-mark k (length (blanks k)) comes.index))
    (λ t m. absurd (no-member t (subst (λ l. Contains l t) empty m)))
  where
    long : length all ≤ n
    long = by (cases_lt n (length all))
      where
        by : (n < length all) ⊎ (length all ≤ n) → length all ≤ n
        by (inl lt) = absurd (none-some (get_or all n []) (sym (slice_get-get_or all n [] lt) ∙ none))
        by (inr le) = le

    no-member : (t : Tuple) → Contains [] t → ⊥
    no-member t m = omega (arith, m.1)

    empty : drop (suc n) all ≡ []
    empty = drop_of_length-le all {i = suc n} (omega (arith, long))
