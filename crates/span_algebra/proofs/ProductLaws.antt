-- The steps and ends of pairs, as lists.
use Rattle.std.proofs.Common.{◌≡◌, ℕ, ◌+◌, ◌<◌, ◌↔◌, ◌⊎◌, inl, inr, List, [], length, Contains, Some, slice_get, refl, sym, ap, subst, arith}
use Rattle.marker_nfa.specs.declared.nfa.End.{End}
use Rattle.marker_nfa.specs.Parts.{Adds}
use Rattle.marker_nfa.proofs.Adding.{adds_more, adds_same, from_none}
use Rattle.marker_dfa.specs.Deterministic.{DeterministicAutomaton}
use Rattle.marker_dfa.proofs.Lists.{get_within, one_value}
use Rattle.span_algebra.specs.declared.joints.Joint.{Joint}
use Rattle.span_algebra.specs.declared.joints.Meeting.{Meeting}
use Rattle.span_algebra.specs.declared.pairs.Pair.{Pair}
use Rattle.span_algebra.specs.Joints.{IsJointAmong}
use Rattle.span_algebra.specs.Products.{IsPairEnd, IsPairEndOf}

pub of-joints : {X : Type 0} (old new : List X) (Q : Joint → X → Type 0) (items joints : List Joint) (t : Meeting) (lefts rights ls rs : List ℕ) → items ≡ joints → ((j : Joint) → Contains joints j ↔ IsJointAmong t lefts rights j) → lefts ≡ ls → rights ≡ rs
    → Adds old new (λ x. (j : Joint) × Contains items j × Q j x) → Adds old new (λ x. (j : Joint) × IsJointAmong t ls rs j × Q j x)
of-joints {X} old new Q items joints t lefts rights ls rs e all l r h = adds_same old new (λ x. (j : Joint) × Contains items j × Q j x) (λ x. (j : Joint) × IsJointAmong t ls rs j × Q j x) to from h
  where
    to : (x : X) → (j : Joint) × Contains items j × Q j x → (j : Joint) × IsJointAmong t ls rs j × Q j x
    to x k =
        let w = (all k.0).0 (subst (λ (z : List Joint). Contains z k.0) e k.1) in
        (k.0, subst (λ (z : List ℕ). IsJointAmong t ls z k.0) r (subst (λ (z : List ℕ). IsJointAmong t z rights k.0) l w), k.2)

    from : (x : X) → (j : Joint) × IsJointAmong t ls rs j × Q j x → (j : Joint) × Contains items j × Q j x
    from x k =
        let w = subst (λ (z : List ℕ). IsJointAmong t lefts z k.0) (sym r) (subst (λ (z : List ℕ). IsJointAmong t z rs k.0) (sym l) k.1) in
        (k.0, subst (λ (z : List Joint). Contains z k.0) (sym e) ((all k.0).1 w), k.2)

module _ (a b : DeterministicAutomaton) (t : Meeting) (pairs : List Pair) where
  abbrev pub EndBefore : ℕ → End → Type 0
  EndBefore k e = (i : ℕ) × (i < k) × (p : Pair) × (slice_get pairs i ≡ Some p) × IsPairEndOf a b t p i e

  pub ends-next : (old mid new : List End) (k : ℕ) (o : Pair) → slice_get pairs k ≡ Some o → Adds old mid (EndBefore k) → Adds mid new (IsPairEndOf a b t o k) → Adds old new (EndBefore (k + 1))
  ends-next old mid new k o at h g = adds_more old mid new (EndBefore k) (IsPairEndOf a b t o k) (EndBefore (k + 1)) h g up down
    where
      up : (e : End) → EndBefore k e ⊎ IsPairEndOf a b t o k e → EndBefore (k + 1) e
      up e (inl x) = (x.0, omega (arith, x.1), x.2, x.3, x.4)
      up e (inr q) = (k, omega arith, o, at, q)

      last : (j : ℕ) → j < k + 1 → (j < k) ⊎ (j ≡ k)
      last j n = grind arith

      split : (e : End) (i : ℕ) (p : Pair) → slice_get pairs i ≡ Some p → IsPairEndOf a b t p i e → (i < k) ⊎ (i ≡ k) → EndBefore k e ⊎ IsPairEndOf a b t o k e
      split e i p s q (inl less) = inl (i, less, p, s, q)
      split e i p s q (inr n) =
          let there : slice_get pairs k ≡ Some p = subst (λ (j : ℕ). slice_get pairs j ≡ Some p) n s in
          let same : p ≡ o = one_value pairs k p o there at in
          inr (subst (λ (x : Pair). IsPairEndOf a b t x k e) same (subst (λ (j : ℕ). IsPairEndOf a b t p j e) n q))

      down : (e : End) → EndBefore (k + 1) e → EndBefore k e ⊎ IsPairEndOf a b t o k e
      down e x = split e x.0 x.2 x.3 x.4 (last x.0 x.1)

  pub ends-none : (old : List End) → Adds old old (EndBefore 0)
  ends-none old e = ((λ c. inl c), back)
    where
      back : Contains old e ⊎ EndBefore 0 e → Contains old e
      back (inl c) = c
      back (inr x) = absurd (omega (arith, x.1))

  pub ends-all : (new : List End) (k : ℕ) → k ≡ length pairs → Adds [] new (EndBefore k) → (e : End) → Contains new e ↔ IsPairEnd a b t pairs e
  ends-all new k count h e = ((λ c. to (all.0 c)), (λ x. all.1 (from x)))
    where
      all : Contains new e ↔ EndBefore k e
      all = from_none [] new (EndBefore k) refl h e

      to : EndBefore k e → IsPairEnd a b t pairs e
      to x =
          let is = x.4.2 in
          let s : x.0 ≡ e.state = sym (ap (λ (y : End). y.state) is) in
          record { pair = x.2; there = subst (λ (i : ℕ). slice_get pairs i ≡ Some x.2) s x.3; end = subst (λ (i : ℕ). IsPairEndOf a b t x.2 i e) s x.4 }

      from : IsPairEnd a b t pairs e → EndBefore k e
      from x = (e.state, omega (arith, get_within pairs e.state x.pair x.there, count), x.pair, x.there, x.end)
