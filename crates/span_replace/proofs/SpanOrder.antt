-- Mark order of tuples of one span: by its start, then by its end.
use Rattle.std.proofs.Common.{◌≡◌, ℕ, ◌+◌, ◌<◌, ◌≤◌, ◌⊎◌, inl, inr, [], ◌∷◌, Some, refl, sym, ap, subst, ◌∙◌, arith}
use Rattle.std.proofs.lemmas.Bool.{cases_order}
use Rattle.span_types.specs.declared.tuple.Span.{Span}
use Rattle.span_types.specs.Marks.{at_position, mark_of, Comes}
use Rattle.span_types.proofs.OrderLaws.{irreflexive, transitive}
use Rattle.span_types.proofs.Sums.{at_same, at_other}
use Rattle.span_enum.specs.Members.{Tuple}

-- a starts before b, or with it and ends before it
abbrev pub IsBefore : Span → Span → Type 0
IsBefore a b = (a.start < b.start) ⊎ ((a.start ≡ b.start) × (a.end < b.end))

-- the tuple of this span
abbrev pub one : Span → Tuple
one q = Some q ∷ []

mark-one : (q : Span) (p : ℕ) → mark_of (one q) p ≡ at_position q.start 1 p + at_position q.end 2 p
mark-one q p = omega arith

mark-none : (q : Span) (p : ℕ) → p < q.start → q.start ≤ q.end → mark_of (one q) p ≡ 0
mark-none q p h o = omega (arith, mark-one q p, at_other q.start 1 p (λ e. omega (arith, e, h)), at_other q.end 2 p (λ e. omega (arith, e, h, o)))

starts-before : (a b : Span) → a.start ≤ a.end → b.start ≤ b.end → a.start < b.start → Comes (one a) (one b)
starts-before a b oa ob h = record {
  index = a.start;
  same_before = λ p lt. mark-none a p lt oa ∙ sym (mark-none b p (omega (arith, lt, h)) ob);
  greater = omega (arith, mark-none b a.start h ob, mark-one a a.start, at_same a.start 1);
}

ends-before : (a b : Span) → a.start ≤ a.end → a.start ≡ b.start → a.end < b.end → Comes (one a) (one b)
ends-before a b oa e h = record {
  index = a.end;
  same_before = λ p lt. omega (arith, mark-one a p, mark-one b p, starts p, at_other a.end 2 p (λ k. omega (arith, k, lt)), at_other b.end 2 p (λ k. omega (arith, k, lt, h)));
  greater = omega (arith, mark-one a a.end, mark-one b a.end, starts a.end, at_same a.end 2, at_other b.end 2 a.end (λ k. omega (arith, k, h)));
}
  where
    starts : (p : ℕ) → at_position a.start 1 p ≡ at_position b.start 1 p
    starts p = ap (λ s. at_position s 1 p) e

pub before-comes : (a b : Span) → a.start ≤ a.end → b.start ≤ b.end → IsBefore a b → Comes (one a) (one b)
before-comes a b oa ob (inl h) = starts-before a b oa ob h
before-comes a b oa ob (inr h) = ends-before a b oa h.0 h.1

same-span : (a b : Span) → a.start ≡ b.start → a.end ≡ b.end → a ≡ b
same-span a b s e = λ i. record { start = s i; end = e i }

pub order : (a b : Span) → (a ≡ b) ⊎ (IsBefore a b ⊎ IsBefore b a)
order a b = by (cases_order a.start b.start) (cases_order a.end b.end)
  where
    by : (a.start ≡ b.start) ⊎ ((a.start < b.start) ⊎ (b.start < a.start)) → (a.end ≡ b.end) ⊎ ((a.end < b.end) ⊎ (b.end < a.end)) → (a ≡ b) ⊎ (IsBefore a b ⊎ IsBefore b a)
    by (inr (inl l)) o = inr (inl (inl l))
    by (inr (inr l)) o = inr (inr (inl l))
    by (inl s) (inl e) = inl (same-span a b s e)
    by (inl s) (inr (inl l)) = inr (inl (inr (s, l)))
    by (inl s) (inr (inr l)) = inr (inr (inr (sym s, l)))

pub comes-before : (a b : Span) → a.start ≤ a.end → b.start ≤ b.end → Comes (one a) (one b) → IsBefore a b
comes-before a b oa ob c = by (order a b)
  where
    by : (a ≡ b) ⊎ (IsBefore a b ⊎ IsBefore b a) → IsBefore a b
    by (inl e) = absurd (irreflexive (one b) (subst (λ (z : Span). Comes (one z) (one b)) e c))
    by (inr (inl h)) = h
    by (inr (inr h)) = absurd (irreflexive (one a) (transitive (one a) (one b) (one a) refl c (before-comes b a ob oa h)))
