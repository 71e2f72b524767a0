-- Lists of pairs that gain pairs.
use Rattle.std.proofs.Common.{◌≡◌, ℕ, ◌+◌, ◌<◌, ◌⊎◌, inl, inr, List, [], ◌∷◌, ◌++◌, length, Option, Some, None, MatchOption, Contains, slice_get, slice_index_or, true, false, sym, ap, subst, ◌∙◌, arith, refl}
use Rattle.std.specs.Option.{is_some}
use Rattle.std.proofs.lemmas.List.{get_or_default}
use Rattle.marker_nfa.proofs.Adding.{EachBefore}
use Rattle.marker_dfa.proofs.Lists.{at_contains, contains_at, contains_push, get_push, push_get}
use Rattle.span_algebra.specs.declared.pairs.Pair.{Pair}
use Rattle.span_algebra.specs.declared.pairs.PairStep.{PairStep}
use Rattle.span_algebra.specs.declared.refusal.AlgebraRefusal.{AlgebraRefusal}
use Rattle.span_algebra.specs.declared.refusal.AlgebraRefusal.TheVariants.{TooManyVariables, TooManyStates, NoMemory}
use Rattle.span_algebra.specs.Pairs.{AreDistinct, AreFew, Gains, NoRoom, IsTarget, IsTargetAmong}
use Rattle.span_algebra.specs.Refusals.{IsRefused}

length-push : (xs : List Pair) (x : Pair) → length (xs ++ x ∷ []) ≡ length xs + 1
length-push [] x = refl
length-push (y ∷ xs) x = omega (arith, length-push xs x)

-- a new pair, put last, occurs once
apart-push : (xs : List Pair) (x : Pair) → AreDistinct xs → (Contains xs x → ⊥) → AreDistinct (xs ++ x ∷ [])
apart-push xs x apart new i j p e g = by (get_push xs x p i e) (get_push xs x p j g)
  where
    by : (slice_get xs i ≡ Some p) ⊎ ((i ≡ length xs) × (x ≡ p)) → (slice_get xs j ≡ Some p) ⊎ ((j ≡ length xs) × (x ≡ p)) → i ≡ j
    by (inl a) (inl b) = apart i j p a b
    by (inl a) (inr b) = absurd (new (subst (λ (y : Pair). Contains xs y) (sym b.1) (contains_at xs i p a)))
    by (inr a) (inl b) = absurd (new (subst (λ (y : Pair). Contains xs y) (sym a.1) (contains_at xs j p b)))
    by (inr a) (inr b) = a.0 ∙ sym b.0

pub gains-none : (most : ℕ) (old : List Pair) (Q : Pair → Type 0) → AreFew most old → ((p : Pair) → Q p → ⊥) → Gains most Q old old
gains-none most old Q few none = record { few = few; stays = λ i p e. e; only = λ p c. inl c; all = λ p q. absurd (none p q) }

pub gains-same : (most : ℕ) (old : List Pair) (x : Pair) → AreFew most old → Contains old x → Gains most (λ p. p ≡ x) old old
gains-same most old x few there = record { few = few; stays = λ i p e. e; only = λ p c. inl c; all = λ p q. subst (λ (y : Pair). Contains old y) (sym q) there }

pub gains-push : (most : ℕ) (old new : List Pair) (x : Pair) → AreFew most old → (Contains old x → ⊥) → length old < most → new ≡ old ++ x ∷ [] → Gains most (λ p. p ≡ x) old new
gains-push most old new x few absent room is = subst (λ (l : List Pair). Gains most (λ p. p ≡ x) old l) (sym is) made
  where
    made : Gains most (λ p. p ≡ x) old (old ++ x ∷ [])
    made = record {
      few = record { apart = apart-push old x few.apart absent; few = omega (arith, room, length-push old x) };
      stays = λ i p e. push_get old x p i e;
      only = λ p c. (contains_push old x p).0 c;
      all = λ p q. (contains_push old x p).1 (inr q);
    }

pub no-room : (most : ℕ) (old : List Pair) (x : Pair) → AreFew most old → (Contains old x → ⊥) → length old ≡ most → NoRoom most (λ p. p ≡ x) old
no-room most old x few absent full = record {
  others = old ++ x ∷ [];
  many = omega (arith, full, length-push old x);
  apart = apart-push old x few.apart absent;
  from = λ p c. (contains_push old x p).0 c;
}

-- a pair of the list after one gain, or of the next gain
gained : (most : ℕ) (old mid : List Pair) (P Q R : Pair → Type 0) → ((p : Pair) → P p ⊎ Q p → R p) → Gains most P old mid → (p : Pair) → Contains mid p ⊎ Q p → Contains old p ⊎ R p
gained most old mid P Q R f h p (inl c) = by (h.only p c)
  where
    by : Contains old p ⊎ P p → Contains old p ⊎ R p
    by (inl o) = inl o
    by (inr q) = inr (f p (inl q))
gained most old mid P Q R f h p (inr q) = inr (f p (inr q))

-- one gain after another
pub gains-more : (most : ℕ) (old mid new : List Pair) (P Q R : Pair → Type 0) → ((p : Pair) → P p ⊎ Q p → R p) → ((p : Pair) → R p → P p ⊎ Q p) → Gains most P old mid → Gains most Q mid new → Gains most R old new
gains-more most old mid new P Q R f g h k = record {
  few = k.few;
  stays = λ i p e. k.stays i p (h.stays i p e);
  only = λ p c. gained most old mid P Q R f h p (k.only p c);
  all = λ p r. either p (g p r);
}
  where
    either : (p : Pair) → P p ⊎ Q p → Contains new p
    either p (inl q) = let w = at_contains mid p (h.all p q) in contains_at new w.0 p (k.stays w.0 p w.1)
    either p (inr q) = k.all p q

pub no-room-more : (most : ℕ) (old mid : List Pair) (P Q R : Pair → Type 0) → ((p : Pair) → P p ⊎ Q p → R p) → Gains most P old mid → NoRoom most Q mid → NoRoom most R old
no-room-more most old mid P Q R f h k = record { others = k.others; many = k.many; apart = k.apart; from = λ p c. gained most old mid P Q R f h p (k.from p c) }

pub no-targets : (steps : List PairStep) (p : Pair) → EachBefore IsTarget steps 0 p → ⊥
no-targets steps p e = let l : e.1 < 0 = e.2 in absurd (omega (arith, l))

last-or : (j k : ℕ) → j < k + 1 → (j < k) ⊎ (j ≡ k)
last-or j k l = grind arith

pub targets-step : (most : ℕ) (old mid new : List Pair) (steps : List PairStep) (k : ℕ) (s : PairStep) → k < length steps → slice_index_or steps k s ≡ s → Gains most (EachBefore IsTarget steps k) old mid → Gains most (λ p. p ≡ s.to) mid new → Gains most (EachBefore IsTarget steps (k + 1)) old new
targets-step most old mid new steps k s lt at h g = gains-more most old mid new (EachBefore IsTarget steps k) (λ p. p ≡ s.to) (EachBefore IsTarget steps (k + 1)) up down h g
  where
    up : (p : Pair) → EachBefore IsTarget steps k p ⊎ (p ≡ s.to) → EachBefore IsTarget steps (k + 1) p
    up p (inl x) = (x.0, x.1, omega (arith, x.2), x.3, x.4, x.5)
    up p (inr q) = (s, k, omega arith, lt, at, q)

    split : (p : Pair) (z : PairStep) (j : ℕ) → j < length steps → slice_index_or steps j z ≡ z → p ≡ z.to → (j < k) ⊎ (j ≡ k) → EachBefore IsTarget steps k p ⊎ (p ≡ s.to)
    split p z j l a q (inl less) = inl (z, j, less, l, a, q)
    split p z j l a q (inr e) =
        let same : z ≡ s = sym a ∙ get_or_default steps j z s l ∙ ap (λ n. slice_index_or steps n s) e ∙ at in
        inr (q ∙ ap (λ (x : PairStep). x.to) same)

    down : (p : Pair) → EachBefore IsTarget steps (k + 1) p → EachBefore IsTarget steps k p ⊎ (p ≡ s.to)
    down p x = split p x.0 x.1 x.3 x.4 x.5 (last-or x.1 k x.2)

pub targets-end : (most : ℕ) (old new : List Pair) (steps : List PairStep) (k : ℕ) → k ≡ length steps → Gains most (EachBefore IsTarget steps k) old new → Gains most (IsTargetAmong steps) old new
targets-end most old new steps k e h = record { few = h.few; stays = h.stays; only = λ p c. some p (h.only p c); all = λ p q. h.all p (q.0, q.1.0, omega (arith, q.1.1, e), q.1.1, q.1.2, q.2) }
  where
    some : (p : Pair) → Contains old p ⊎ EachBefore IsTarget steps k p → Contains old p ⊎ IsTargetAmong steps p
    some p (inl c) = inl c
    some p (inr x) = inr (x.0, (x.1, x.3, x.4), x.5)

pub targets-refused : (most : ℕ) (old mid : List Pair) (steps : List PairStep) (k : ℕ) (s : PairStep) (why : AlgebraRefusal) → k < length steps → slice_index_or steps k s ≡ s → Gains most (EachBefore IsTarget steps k) old mid → IsRefused 0 (NoRoom most (λ p. p ≡ s.to) mid) why → IsRefused 0 (NoRoom most (IsTargetAmong steps) old) why
targets-refused most old mid steps k s TooManyVariables lt at h r = r
targets-refused most old mid steps k s TooManyStates lt at h r = (r.0, no-room-more most old mid (EachBefore IsTarget steps k) (λ p. p ≡ s.to) (IsTargetAmong steps) up h r.1)
  where
    up : (p : Pair) → EachBefore IsTarget steps k p ⊎ (p ≡ s.to) → IsTargetAmong steps p
    up p (inl x) = (x.0, (x.1, x.3, x.4), x.5)
    up p (inr q) = (s, (k, lt, at), q)
targets-refused most old mid steps k s NoMemory lt at h r = tt

pub absent : (xs : List Pair) (x : Pair) (index : Option ℕ) → MatchOption index (Contains xs x → ⊥) (λ i. slice_get xs i ≡ Some x) → is_some index ≡ false → Contains xs x → ⊥
absent xs x None h e c = h c
absent xs x (Some i) h e c = let bad : true ≡ false = e in absurd (cc)
