-- The longest spans, taken one after the other.
use Rattle.std.proofs.Common.{◌≡◌, ℕ, ◌+◌, ◌<◌, ◌≤◌, ◌⊎◌, inl, inr, Bool, true, false, nat_lt, ◌==◌, ◌&&◌, ◌||◌, not, List, [], ◌∷◌, Option, Some, None, refl, sym, ap, ◌∙◌, arith}
use Rattle.std.specs.Prelude.{if◌then◌else◌}
use Rattle.std.specs.List.{list_any}
use Rattle.std.proofs.lemmas.Bool.Decides.{nat_tests}
use Rattle.span_types.specs.declared.tuple.Span.{Span}
use Rattle.span_types.specs.Places.{IsSpan}
use Rattle.span_replace.specs.Cursor.{empty_end}
use Rattle.span_replace.specs.Longest.{may_follow, is_longest, longest_from}
use Rattle.span_replace.specs.Replaced.{AreApartFrom}
use Rattle.span_replace.proofs.SpanOrder.{IsBefore}
use Rattle.span_replace.proofs.Picked.{AreSorted, Has, decide, sorted-span}

-- r comes after the empty span at the end of the last one taken, if any
abbrev pub Follows : Option Span → Span → Type 0
Follows None r = Unit {0}
Follows (Some l) r = IsBefore (empty_end l) r

follow-yes : (last : Option Span) (r : Span) → IsSpan r → Follows last r → may_follow last r ≡ true
follow-yes None r ir h = refl
follow-yes (Some l) r ir (inl h) = grind (arith, nat_tests)
follow-yes (Some l) r ir (inr h) = grind (arith, nat_tests)

follow-no : (last : Option Span) (r : Span) → IsSpan r → (Follows last r → ⊥) → may_follow last r ≡ false
follow-no None r ir h = absurd (h tt)
follow-no (Some l) r ir h = grind (arith, nat_tests, ir.ordered)

-- ---- the greatest end of a start
test-no : (q r : Span) → (r.start ≡ q.start → r.end ≤ q.end) → ((r.start == q.start) && nat_lt q.end r.end) ≡ false
test-no q r h = grind (arith, nat_tests)

test-yes : (q r : Span) → r.start ≡ q.start → q.end < r.end → ((r.start == q.start) && nat_lt q.end r.end) ≡ true
test-yes q r e h = grind (arith, nat_tests)

any-no : (q : Span) (qs : List Span) → ((r : Span) → Has qs r → r.start ≡ q.start → r.end ≤ q.end) → list_any (λ r. (r.start == q.start) && nat_lt q.end r.end) qs ≡ false
any-no q [] h = refl
any-no q (r ∷ rs) h = rw (test-no q r (h r (inl refl)), any-no q rs (λ t k. h t (inr k))) refl

any-yes : (q r : Span) (qs : List Span) → Has qs r → r.start ≡ q.start → q.end < r.end → list_any (λ r. (r.start == q.start) && nat_lt q.end r.end) qs ≡ true
any-yes q r [] h e lt = absurd h
any-yes q r (x ∷ xs) (inl same) e lt = rw (same, test-yes q r e lt) refl
any-yes q r (x ∷ xs) (inr k) e lt = either ((x.start == q.start) && nat_lt q.end x.end) (any-yes q r xs k e lt)
  where
    either : (b : Bool) → list_any (λ r. (r.start == q.start) && nat_lt q.end r.end) xs ≡ true → (b || list_any (λ r. (r.start == q.start) && nat_lt q.end r.end) xs) ≡ true
    either true h = refl
    either false h = h

and-no : (a b : Bool) → b ≡ false → (a && b) ≡ false
and-no true b h = h
and-no false b h = refl

longest-yes : (last : Option Span) (q : Span) (qs : List Span) → may_follow last q ≡ true → is_longest q qs ≡ true → longest_from last (q ∷ qs) ≡ q ∷ longest_from (Some q) qs
longest-yes last q qs h k = ap (λ (b : Bool). if b then q ∷ longest_from (Some q) qs else longest_from last qs) (ap (λ b. b && is_longest q qs) h ∙ k)

longest-no : (last : Option Span) (q : Span) (qs : List Span) → (may_follow last q && is_longest q qs) ≡ false → longest_from last (q ∷ qs) ≡ longest_from last qs
longest-no last q qs h = ap (λ (b : Bool). if b then q ∷ longest_from (Some q) qs else longest_from last qs) h

first-no : (a b : Bool) → a ≡ false → (a && b) ≡ false
first-no true b h = absurd (bad h)
  where
    bad : true ≡ false → ⊥
    bad e = cc
first-no false b h = refl

longest-skip : (last : Option Span) (q : Span) (qs : List Span) → IsSpan q → (Follows last q → ⊥) → longest_from last (q ∷ qs) ≡ longest_from last qs
longest-skip last q qs iq h = longest-no last q qs (first-no (may_follow last q) (is_longest q qs) (follow-no last q iq h))

-- neither q nor a span before it comes after the empty span at its end
back : (q r : Span) → IsSpan q → IsSpan r → (r ≡ q) ⊎ IsBefore r q → IsBefore (empty_end q) r → ⊥
back q r iq ir (inl e) (inl h) = omega (arith, ap (λ (z : Span). z.start) e, iq.ordered, h)
back q r iq ir (inl e) (inr h) = omega (arith, ap (λ (z : Span). z.end) e, h.1)
back q r iq ir (inr (inl b)) (inl h) = omega (arith, b, iq.ordered, h)
back q r iq ir (inr (inl b)) (inr h) = omega (arith, b, iq.ordered, h.0)
back q r iq ir (inr (inr b)) (inl h) = omega (arith, b.0, iq.ordered, h)
back q r iq ir (inr (inr b)) (inr h) = omega (arith, b.1, h.1)

can-follow : (last : Option Span) (r : Span) → Follows last r ⊎ (Follows last r → ⊥)
can-follow None r = inl tt
can-follow (Some l) r = decide (empty_end l) r

-- the span of the least start that may follow, and of the greatest end of that start, is taken, and then those that follow it
pub first-taken : (last : Option Span) (q : Span) (qs : List Span) → AreSorted qs → Has qs q → Follows last q → ((r : Span) → Has qs r → Follows last r → q.start ≤ r.start)
    → ((r : Span) → Has qs r → r.start ≡ q.start → r.end ≤ q.end) → longest_from last qs ≡ q ∷ longest_from (Some q) qs
first-taken last q [] s h f least most = absurd h
first-taken last q (x ∷ xs) s h f least most = by h (λ m. first-taken last q xs s.2 m f (λ r k. least r (inr k)) (λ r k. most r (inr k)))
  where
    iq : IsSpan q
    iq = sorted-span (x ∷ xs) s q h

    here : x ≡ q → longest_from last (x ∷ xs) ≡ q ∷ longest_from (Some q) (x ∷ xs)
    here e =
        let taken : longest_from last (q ∷ xs) ≡ q ∷ longest_from (Some q) xs = longest-yes last q xs (follow-yes last q iq f) (ap not (any-no q xs (λ r k. most r (inr k)))) in
        ap (λ z. longest_from last (z ∷ xs)) e ∙ (taken ∙ ap (λ zs. q ∷ zs) (sym (longest-skip (Some q) x xs s.0 (back q x iq s.0 (inl e)))))

    skip : Has xs q → (Follows last x) ⊎ (Follows last x → ⊥) → longest_from last (x ∷ xs) ≡ longest_from last xs
    skip m (inr apart) = longest-skip last x xs s.0 apart
    skip m (inl follows) = longest-no last x xs (and-no (may_follow last x) (is_longest x xs) (ap not (any-yes x q xs m (same (s.1 q m)) (more (s.1 q m)))))
      where
        low : q.start ≤ x.start
        low = least x (inl refl) follows

        same : IsBefore x q → q.start ≡ x.start
        same (inl b) = absurd (omega (arith, b, low))
        same (inr b) = sym b.0

        more : IsBefore x q → x.end < q.end
        more (inl b) = absurd (omega (arith, b, low))
        more (inr b) = b.1

    by : (x ≡ q) ⊎ Has xs q → (Has xs q → longest_from last xs ≡ q ∷ longest_from (Some q) xs) → longest_from last (x ∷ xs) ≡ q ∷ longest_from (Some q) (x ∷ xs)
    by (inl e) rest = here e
    by (inr m) rest =
        skip m (can-follow last x) ∙ (rest m ∙ ap (λ zs. q ∷ zs) (sym (longest-skip (Some q) x xs s.0 (back q x iq s.0 (inr (s.1 q m))))))

pub none-taken : (last : Option Span) (qs : List Span) → AreSorted qs → ((r : Span) → Has qs r → Follows last r → ⊥) → longest_from last qs ≡ []
none-taken last [] s none = refl
none-taken last (r ∷ rs) s none = longest-skip last r rs s.0 (none r (inl refl)) ∙ none-taken last rs s.2 (λ t k. none t (inr k))

-- ---- longest spans of a text lie apart in it
abbrev pub place_after : Option Span → ℕ
place_after None = 1
place_after (Some l) = l.end

follow-index : (last : Option Span) (q : Span) → 1 ≤ q.start → may_follow last q ≡ true → place_after last ≤ q.start
follow-index None q p h = p
follow-index (Some l) q p h = grind (arith, nat_tests)

pub longest-apart : (n : ℕ) (last : Option Span) (qs : List Span) → place_after last ≤ n + 1 → ((q : Span) → Has qs q → (1 ≤ q.start) × (q.start ≤ q.end) × (q.end ≤ n + 1))
    → AreApartFrom (place_after last) n (longest_from last qs)
longest-apart n last [] h all = h
longest-apart n last (q ∷ qs) h all =
    by (may_follow last q) (is_longest q qs) refl (longest-apart n (Some q) qs (all q (inl refl)).2 (λ r k. all r (inr k))) (longest-apart n last qs h (λ r k. all r (inr k)))
  where
    by : (a b : Bool) → a ≡ may_follow last q → AreApartFrom q.end n (longest_from (Some q) qs) → AreApartFrom (place_after last) n (longest_from last qs)
        → AreApartFrom (place_after last) n (if a && b then q ∷ longest_from (Some q) qs else longest_from last qs)
    by true true e taken left = (follow-index last q (all q (inl refl)).0 (sym e), (all q (inl refl)).1, taken)
    by true false e taken left = left
    by false b e taken left = left
