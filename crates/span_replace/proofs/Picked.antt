-- The chosen spans, found one after the other from a span after which the next is sought.
use Rattle.std.proofs.Common.{◌≡◌, ℕ, ◌+◌, ◌-◌, ◌<◌, ◌≤◌, ◌⊎◌, inl, inr, Bool, true, false, nat_lt, ◌==◌, ◌&&◌, ◌||◌, List, [], ◌∷◌, refl, sym, ap, subst, ◌∙◌, arith}
use Rattle.std.specs.Prelude.{if◌then◌else◌}
use Rattle.std.proofs.lemmas.Bool.{cases_lt, le-leb, lt-leb}
use Rattle.std.proofs.lemmas.Bool.Decides.{nat_tests}
use Rattle.span_types.specs.declared.tuple.Span.{Span}
use Rattle.span_types.specs.Places.{IsSpan}
use Rattle.span_replace.specs.Chosen.{chosen_from}
use Rattle.span_replace.specs.Replaced.{AreApartFrom}
use Rattle.span_replace.specs.Cursor.{past}
use Rattle.span_replace.proofs.SpanOrder.{IsBefore, order}

-- whether b comes after a
is_later : Span → Span → Bool
is_later a b = nat_lt a.start b.start || ((a.start == b.start) && nat_lt a.end b.end)

later-true : (a b : Span) → IsBefore a b → is_later a b ≡ true
unfolding is_later
later-true a b (inl h) = grind (arith, nat_tests)
later-true a b (inr h) = grind (arith, nat_tests)

later-false : (a b : Span) → (IsBefore a b → ⊥) → is_later a b ≡ false
unfolding is_later
later-false a b h = grind (arith, nat_tests)

-- the first span after c, and so on from the span after which the next is sought
pub picked : Span → List Span → List Span
picked c [] = []
picked c (q ∷ qs) = if is_later c q then q ∷ picked (past q) qs else picked c qs

not-itself : (q : Span) → IsBefore q q → ⊥
not-itself q (inl h) = omega (arith, h)
not-itself q (inr h) = omega (arith, h.1)

not-both : (q r : Span) → IsBefore q r → IsBefore r q → ⊥
not-both q r (inl h) (inl k) = omega (arith, h, k)
not-both q r (inl h) (inr k) = omega (arith, h, k.0)
not-both q r (inr h) (inl k) = omega (arith, h.0, k)
not-both q r (inr h) (inr k) = omega (arith, h.1, k.1)

pub decide : (a b : Span) → IsBefore a b ⊎ (IsBefore a b → ⊥)
decide a b = by (order a b)
  where
    by : (a ≡ b) ⊎ (IsBefore a b ⊎ IsBefore b a) → IsBefore a b ⊎ (IsBefore a b → ⊥)
    by (inl e) = inr (λ h. not-itself b (subst (λ (z : Span). IsBefore z b) e h))
    by (inr (inl h)) = inl h
    by (inr (inr h)) = inr (λ k. not-both a b k h)

cases_le : (a b : ℕ) → (a ≤ b) ⊎ (b < a)
cases_le a b = by (cases_lt b a)
  where
    by : (b < a) ⊎ (a ≤ b) → (a ≤ b) ⊎ (b < a)
    by (inl l) = inr l
    by (inr l) = inl l

-- q is one of the spans
abbrev pub Has : List Span → Span → Type 0
Has [] q = ⊥
Has (x ∷ xs) q = (x ≡ q) ⊎ Has xs q

-- each is a span, and comes before all that follow
abbrev pub AreSorted : List Span → Type 0
AreSorted [] = Unit {0}
AreSorted (x ∷ xs) = IsSpan x × ((q : Span) → Has xs q → IsBefore x q) × AreSorted xs

pub sorted-span : (qs : List Span) → AreSorted qs → (q : Span) → Has qs q → IsSpan q
sorted-span [] s q h = absurd h
sorted-span (x ∷ xs) s q (inl e) = subst IsSpan e s.0
sorted-span (x ∷ xs) s q (inr h) = sorted-span xs s.2 q h

past-long : (q : Span) → q.start < q.end → past q ≡ record { start = q.end - 1; end = 281474976710657 }
past-long q h = grind (arith, nat_tests)

past-empty : (q : Span) → q.end ≤ q.start → past q ≡ q
past-empty q h = grind (arith, nat_tests)

-- of the spans after q, those that start at or past its end come after the span after which the next is sought
past-to : (q r : Span) → IsSpan q → IsBefore q r → q.end ≤ r.start → IsBefore (past q) r
past-to q r iq b h = by (cases_lt q.start q.end)
  where
    by : (q.start < q.end) ⊎ (q.end ≤ q.start) → IsBefore (past q) r
    by (inl l) = subst (λ (z : Span). IsBefore z r) (sym (past-long q l)) (inl (omega (arith, h, l)))
    by (inr l) = subst (λ (z : Span). IsBefore z r) (sym (past-empty q l)) b

past-from : (q r : Span) → IsSpan q → IsSpan r → IsBefore (past q) r → q.end ≤ r.start
past-from q r iq ir b = by (cases_lt q.start q.end)
  where
    long : q.start < q.end → IsBefore (record { start = q.end - 1; end = 281474976710657 }) r → q.end ≤ r.start
    long l (inl h) = omega (arith, h)
    long l (inr h) = absurd (omega (arith, h.1, ir.small))

    empty : q.end ≤ q.start → IsBefore q r → q.end ≤ r.start
    empty l (inl h) = omega (arith, h, l)
    empty l (inr h) = omega (arith, h.0, l)

    by : (q.start < q.end) ⊎ (q.end ≤ q.start) → q.end ≤ r.start
    by (inl l) = long l (subst (λ (z : Span). IsBefore z r) (past-long q l) b)
    by (inr l) = empty l (subst (λ (z : Span). IsBefore z r) (past-empty q l) b)

-- neither q nor what comes before it comes after that span
past-back : (q r : Span) → IsSpan q → IsSpan r → (r ≡ q) ⊎ IsBefore r q → IsBefore (past q) r → ⊥
past-back q r iq ir o b = by (cases_lt q.start q.end)
  where
    low : (r ≡ q) ⊎ IsBefore r q → r.start ≤ q.start
    low (inl e) = omega (arith, ap (λ (z : Span). z.start) e)
    low (inr (inl h)) = omega (arith, h)
    low (inr (inr h)) = omega (arith, h.0)

    long : q.start < q.end → IsBefore (record { start = q.end - 1; end = 281474976710657 }) r → ⊥
    long l (inl h) = omega (arith, h, l, low o)
    long l (inr h) = omega (arith, h.1, ir.small)

    empty : (r ≡ q) ⊎ IsBefore r q → IsBefore q r → ⊥
    empty (inl e) h = not-itself q (subst (λ (z : Span). IsBefore q z) e h)
    empty (inr k) h = not-both q r h k

    by : (q.start < q.end) ⊎ (q.end ≤ q.start) → ⊥
    by (inl l) = long l (subst (λ (z : Span). IsBefore z r) (past-long q l) b)
    by (inr l) = empty o (subst (λ (z : Span). IsBefore z r) (past-empty q l) b)

pub past-span : (q : Span) → IsSpan q → IsSpan (past q)
past-span q iq = by (cases_lt q.start q.end)
  where
    by : (q.start < q.end) ⊎ (q.end ≤ q.start) → IsSpan (past q)
    by (inl l) =
        subst IsSpan (sym (past-long q l)) (record { positive = omega (arith, iq.positive, l); ordered = omega (arith, iq.small); small = omega arith })
    by (inr l) = subst IsSpan (sym (past-empty q l)) iq

chosen-yes : (p : ℕ) (q : Span) (qs : List Span) → p ≤ q.start → chosen_from p (q ∷ qs) ≡ q ∷ chosen_from q.end qs
chosen-yes p q qs h = rw (le-leb p q.start h) refl

chosen-no : (p : ℕ) (q : Span) (qs : List Span) → q.start < p → chosen_from p (q ∷ qs) ≡ chosen_from p qs
chosen-no p q qs h = rw (lt-leb p q.start h) refl

picked-yes : (c q : Span) (qs : List Span) → IsBefore c q → picked c (q ∷ qs) ≡ q ∷ picked (past q) qs
unfolding picked
picked-yes c q qs h = rw (later-true c q h) refl

picked-no : (c q : Span) (qs : List Span) → (IsBefore c q → ⊥) → picked c (q ∷ qs) ≡ picked c qs
unfolding picked
picked-no c q qs h = rw (later-false c q h) refl

-- what is chosen of the spans after q
chosen-past : (q : Span) (qs : List Span) → IsSpan q → AreSorted qs → ((r : Span) → Has qs r → IsBefore q r) → chosen_from q.end qs ≡ picked (past q) qs
unfolding picked
chosen-past q [] iq s h = refl
chosen-past q (r ∷ rs) iq s h = by (chosen-past r rs s.0 s.2 s.1) (chosen-past q rs iq s.2 (λ t k. h t (inr k))) (cases_le q.end r.start)
  where
    by : chosen_from r.end rs ≡ picked (past r) rs → chosen_from q.end rs ≡ picked (past q) rs → (q.end ≤ r.start) ⊎ (r.start < q.end) → chosen_from q.end (r ∷ rs) ≡ picked (past q) (r ∷ rs)
    by taken left (inl l) = chosen-yes q.end r rs l ∙ (ap (λ xs. r ∷ xs) taken ∙ sym (picked-yes (past q) r rs (past-to q r iq (h r (inl refl)) l)))
    by taken left (inr l) = chosen-no q.end r rs l ∙ (left ∙ sym (picked-no (past q) r rs (λ b. let low = past-from q r iq s.0 b in omega (arith, low, l))))

-- a place before all spans
pub before-all : Span
before-all = record { start = 0; end = 0 }

pub after-start : (q : Span) → IsSpan q → IsBefore before-all q
unfolding before-all
after-start q iq = inl (omega (arith, iq.positive))

pub chosen-picked : (qs : List Span) → AreSorted qs → chosen_from 1 qs ≡ picked before-all qs
unfolding picked
chosen-picked [] s = refl
chosen-picked (q ∷ qs) s =
    chosen-yes 1 q qs (omega (arith, s.0.positive)) ∙ (ap (λ xs. q ∷ xs) (chosen-past q qs s.0 s.2 s.1) ∙ sym (picked-yes before-all q qs (after-start q s.0)))

-- where q is the first after c, it is picked, and so are those from the span after which the next is sought
pub first-picked : (c q : Span) (qs : List Span) → AreSorted qs → Has qs q → IsBefore c q → ((r : Span) → Has qs r → IsBefore c r → (r ≡ q) ⊎ IsBefore q r) → picked c qs ≡ q ∷ picked (past q) qs
first-picked c q [] s h b least = absurd h
first-picked c q (r ∷ rs) s h b least = by (λ m. first-picked c q rs s.2 m b (λ t i. least t (inr i))) (decide c r)
  where
    iq : IsSpan q
    iq = sorted-span (r ∷ rs) s q h

    here : IsBefore c r → r ≡ q → picked c (r ∷ rs) ≡ q ∷ picked (past q) (r ∷ rs)
    here k e =
        let same : r ∷ picked (past r) rs ≡ q ∷ picked (past q) rs = ap (λ (z : Span). z ∷ picked (past z) rs) e in
        picked-yes c r rs k ∙ (same ∙ ap (λ xs. q ∷ xs) (sym (picked-no (past q) r rs (past-back q r iq s.0 (inl e)))))

    yes : IsBefore c r → (r ≡ q) ⊎ IsBefore q r → (r ≡ q) ⊎ Has rs q → picked c (r ∷ rs) ≡ q ∷ picked (past q) (r ∷ rs)
    yes k (inl e) o = here k e
    yes k (inr l) (inl e) = here k e
    yes k (inr l) (inr m) = absurd (not-both q r l (s.1 q m))

    no : (Has rs q → picked c rs ≡ q ∷ picked (past q) rs) → (IsBefore c r → ⊥) → (r ≡ q) ⊎ Has rs q → picked c (r ∷ rs) ≡ q ∷ picked (past q) (r ∷ rs)
    no rest k (inl e) = absurd (k (subst (IsBefore c) (sym e) b))
    no rest k (inr m) =
        picked-no c r rs k ∙ (rest m ∙ ap (λ xs. q ∷ xs) (sym (picked-no (past q) r rs (past-back q r iq s.0 (inr (s.1 q m))))))

    by : (Has rs q → picked c rs ≡ q ∷ picked (past q) rs) → IsBefore c r ⊎ (IsBefore c r → ⊥) → picked c (r ∷ rs) ≡ q ∷ picked (past q) (r ∷ rs)
    by rest (inl k) = yes k (least r (inl refl) k) h
    by rest (inr k) = no rest k h

pub none-picked : (c : Span) (qs : List Span) → ((r : Span) → Has qs r → IsBefore c r → ⊥) → picked c qs ≡ []
unfolding picked
none-picked c [] none = refl
none-picked c (r ∷ rs) none = picked-no c r rs (none r (inl refl)) ∙ none-picked c rs (λ t i. none t (inr i))

-- chosen spans of a text lie apart in it
pub chosen-apart : (n p : ℕ) (qs : List Span) → p ≤ n + 1 → ((q : Span) → Has qs q → (q.start ≤ q.end) × (q.end ≤ n + 1)) → AreApartFrom p n (chosen_from p qs)
chosen-apart n p [] h all = h
chosen-apart n p (q ∷ qs) h all = by (chosen-apart n q.end qs (all q (inl refl)).1 (λ r k. all r (inr k))) (chosen-apart n p qs h (λ r k. all r (inr k))) (cases_le p q.start)
  where
    by : AreApartFrom q.end n (chosen_from q.end qs) → AreApartFrom p n (chosen_from p qs) → (p ≤ q.start) ⊎ (q.start < p) → AreApartFrom p n (chosen_from p (q ∷ qs))
    by taken left (inl l) = subst (AreApartFrom p n) (sym (chosen-yes p q qs l)) (l, (all q (inl refl)).0, taken)
    by taken left (inr l) = subst (AreApartFrom p n) (sym (chosen-no p q qs l)) left
