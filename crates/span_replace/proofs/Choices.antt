-- The first of the answers that are left, and what is chosen from it on.
use Rattle.std.proofs.Common.{◌≡◌, ℕ, suc, ◌≤◌, ◌⊎◌, inl, inr, List, [], ◌∷◌, length, Option, Some, None, Contains, refl, ap, subst, ◌∙◌, arith}
use Rattle.span_types.specs.declared.tuple.Span.{Span}
use Rattle.span_types.specs.Places.{IsSpan}
use Rattle.span_types.specs.Marks.{Comes, Lies}
use Rattle.span_types.specs.Answers.{IsRising}
use Rattle.span_types.proofs.AnswerLaws.{split-member, here, there}
use Rattle.marker_dfa.specs.Deterministic.{DeterministicAutomaton}
use Rattle.span_enum.specs.Members.{Tuple, IsMember, AreAnswersOf}
use Rattle.span_replace.specs.declared.choice.Choice.TheVariants.{First}
use Rattle.span_replace.specs.Chosen.{spans_in, chosen}
use Rattle.span_replace.specs.Cursor.{past}
use Rattle.span_replace.specs.Search.{Finds}
use Rattle.span_replace.specs.Replaced.{AreApart}
use Rattle.span_replace.proofs.SpanOrder.{IsBefore, one, before-comes, comes-before}
use Rattle.span_replace.proofs.Picked.{AreSorted, Has, sorted-span, picked, before-all, after-start, first-picked, none-picked, chosen-apart}

-- ---- tuples of one variable
rest-none : (x : Option Span) (t : Tuple) → length (x ∷ t) ≡ 1 → t ≡ []
rest-none x [] size = refl
rest-none x (y ∷ t) size = absurd (omega (arith, size))

rising-tail : (x : Tuple) (xs : List Tuple) → IsRising (x ∷ xs) → IsRising xs
rising-tail x xs h = λ i j d lt l. h (suc i) (suc j) d (omega arith) (omega arith)

rising-head : (x : Tuple) (xs : List Tuple) (t : Tuple) → IsRising (x ∷ xs) → Contains xs t → Comes x t
rising-head x xs t h c = subst (Comes x) c.2 (h 0 (suc c.0) t (omega arith) (omega (arith, c.1)))

no-member : (t : Tuple) → Contains [] t → ⊥
no-member t c = omega (arith, c.1)

-- each is of one variable, and lies in n bytes
abbrev AreOf : ℕ → List Tuple → Type 0
AreOf n ts = (t : Tuple) → Contains ts t → (length t ≡ 1) × Lies n t

has-in : (n : ℕ) (ts : List Tuple) (q : Span) → AreOf n ts → Has (spans_in ts) q → Contains ts (one q)
has-in n [] q are h = absurd h
has-in n ([] ∷ ts) q are h = there [] ts (one q) (has-in n ts q (λ t k. are t (there [] ts t k)) h)
has-in n ((None ∷ u) ∷ ts) q are h = there (None ∷ u) ts (one q) (has-in n ts q (λ t k. are t (there (None ∷ u) ts t k)) h)
has-in n ((Some x ∷ u) ∷ ts) q are (inl e) =
    let nil : u ≡ [] = rest-none (Some x) u (are (Some x ∷ u) (here (Some x ∷ u) ts)).0 in
    let same : Some x ∷ u ≡ one q = λ i. Some (e i) ∷ nil i in
    subst (Contains ((Some x ∷ u) ∷ ts)) same (here (Some x ∷ u) ts)
has-in n ((Some x ∷ u) ∷ ts) q are (inr h) = there (Some x ∷ u) ts (one q) (has-in n ts q (λ t k. are t (there (Some x ∷ u) ts t k)) h)

in-has : (ts : List Tuple) (q : Span) → Contains ts (one q) → Has (spans_in ts) q
in-has [] q c = absurd (no-member (one q) c)
in-has ([] ∷ ts) q c = by (in-has ts q) (split-member [] ts (one q) c)
  where
    by : (Contains ts (one q) → Has (spans_in ts) q) → ([] ≡ one q) ⊎ Contains ts (one q) → Has (spans_in ts) q
    by rest (inl e) = let bad : ⊥ = cc in absurd bad
    by rest (inr k) = rest k
in-has ((None ∷ u) ∷ ts) q c = by (in-has ts q) (split-member (None ∷ u) ts (one q) c)
  where
    by : (Contains ts (one q) → Has (spans_in ts) q) → (None ∷ u ≡ one q) ⊎ Contains ts (one q) → Has (spans_in ts) q
    by rest (inl e) = let bad : ⊥ = cc in absurd bad
    by rest (inr k) = rest k
in-has ((Some x ∷ u) ∷ ts) q c = by (in-has ts q) (split-member (Some x ∷ u) ts (one q) c)
  where
    by : (Contains ts (one q) → Has (spans_in ts) q) → (Some x ∷ u ≡ one q) ⊎ Contains ts (one q) → (x ≡ q) ⊎ Has (spans_in ts) q
    by rest (inl e) = inl cc
    by rest (inr k) = inr (rest k)

pub span-lies : (n : ℕ) (q : Span) → n ≤ 281474976710656 → Lies n (one q) → IsSpan q
span-lies n q short h = let f = h 0 q refl in record { positive = f.0; ordered = f.1; small = omega (arith, f.2) }

sorted-in : (n : ℕ) (ts : List Tuple) → n ≤ 281474976710656 → IsRising ts → AreOf n ts → AreSorted (spans_in ts)
sorted-in n [] short h are = tt
sorted-in n ([] ∷ ts) short h are = sorted-in n ts short (rising-tail [] ts h) (λ t k. are t (there [] ts t k))
sorted-in n ((None ∷ u) ∷ ts) short h are = sorted-in n ts short (rising-tail (None ∷ u) ts h) (λ t k. are t (there (None ∷ u) ts t k))
sorted-in n ((Some x ∷ u) ∷ ts) short h are = (ix, after, sorted-in n ts short (rising-tail (Some x ∷ u) ts h) later)
  where
    later : AreOf n ts
    later t k = are t (there (Some x ∷ u) ts t k)

    head : (length (Some x ∷ u) ≡ 1) × Lies n (Some x ∷ u)
    head = are (Some x ∷ u) (here (Some x ∷ u) ts)

    same : Some x ∷ u ≡ one x
    same = ap (λ (z : Tuple). Some x ∷ z) (rest-none (Some x) u head.0)

    ix : IsSpan x
    ix = span-lies n x short (subst (Lies n) same head.1)

    after : (q : Span) → Has (spans_in ts) q → IsBefore x q
    after q k =
        let c : Contains ts (one q) = has-in n ts q later k in
        let iq : IsSpan q = span-lies n q short (later (one q) c).1 in
        comes-before x q ix.ordered iq.ordered (subst (λ (z : Tuple). Comes z (one q)) same (rising-head (Some x ∷ u) ts (one q) h c))

-- ---- what was found
-- the spans that follow, of which the first was found, if rest has those after it
abbrev pub upcoming : (Span → List Span → List Span) → Option Span → List Span → List Span
upcoming rest None qs = []
upcoming rest (Some q) qs = q ∷ rest q qs

-- those picked after q
abbrev pub picked_after : Span → List Span → List Span
picked_after q = picked (past q)

module _ (a : DeterministicAutomaton) (s : List ℕ) (single : a.variables ≡ 1) (short : length s ≤ 281474976710656) where
  module _ (all : List Tuple) (answers : AreAnswersOf a s all) where
    are : AreOf (length s) all
    are t k = let m = (answers.members t).0 k in (m.size ∙ single, m.lies)

    pub sorted : AreSorted (spans_in all)
    sorted = sorted-in (length s) all short answers.rising are

    pub member : (q : Span) → Has (spans_in all) q → IsMember a s (one q)
    member q h = (answers.members (one q)).0 (has-in (length s) all q are h)

    pub has : (q : Span) → IsMember a s (one q) → Has (spans_in all) q
    has q m = in-has all q ((answers.members (one q)).1 m)

    pub one-inj : (q r : Span) → one q ≡ one r → q ≡ r
    one-inj q r e = cc

    pub found-after : (c : Span) → IsSpan c → (o : Option Span) → Finds First a s (Some (one c)) o → picked c (spans_in all) ≡ upcoming picked_after o (spans_in all)
    found-after c ic None none =
        none-picked c (spans_in all) (λ r h b. none r (member r h) (before-comes c r ic.ordered (sorted-span (spans_in all) sorted r h).ordered b))
    found-after c ic (Some q) f = first-picked c q (spans_in all) sorted (has q f.member) (comes-before c q ic.ordered iq.ordered f.left) least
      where
        iq : IsSpan q
        iq = span-lies (length s) q short f.member.lies

        least : (r : Span) → Has (spans_in all) r → IsBefore c r → (r ≡ q) ⊎ IsBefore q r
        least r h b =
            let ir = sorted-span (spans_in all) sorted r h in
            elim (f.least (one r) (member r h) (before-comes c r ic.ordered ir.ordered b)) [
              | inl e ↦ inl (one-inj r q e)
              | inr k ↦ inr (comes-before q r iq.ordered ir.ordered k)
            ]

    pub found-first : (o : Option Span) → Finds First a s None o → picked before-all (spans_in all) ≡ upcoming picked_after o (spans_in all)
    found-first None none = none-picked before-all (spans_in all) (λ r h b. none r (member r h) tt)
    found-first (Some q) f = first-picked before-all q (spans_in all) sorted (has q f.member) (after-start q iq) least
      where
        iq : IsSpan q
        iq = span-lies (length s) q short f.member.lies

        least : (r : Span) → Has (spans_in all) r → IsBefore before-all r → (r ≡ q) ⊎ IsBefore q r
        least r h b =
            let ir = sorted-span (spans_in all) sorted r h in
            elim (f.least (one r) (member r h) tt) [ inl e ↦ inl (one-inj r q e) | inr k ↦ inr (comes-before q r iq.ordered ir.ordered k) ]

    -- the chosen spans lie apart in the text
    pub apart-all : AreApart (length s) (chosen all)
    apart-all = chosen-apart (length s) 1 (spans_in all) (omega arith) (λ q h. let f = (member q h).lies 0 q refl in (f.1, omega (arith, f.2)))
