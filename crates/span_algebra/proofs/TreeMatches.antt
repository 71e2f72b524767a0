-- Two automata of the same occurrences differ in the numbers of their states alone.
use Rattle.std.proofs.Common.{◌≡◌, ℕ, ◌<◌, [], Option, Some, None, slice_get, get_or, Contains, refl, sym, subst, arith}
use Rattle.std.proofs.lemmas.Option.{slice_get-get_or}
use Rattle.marker_dfa.specs.Reached.{IsIn, IsMove, Subset, start_set}
use Rattle.marker_dfa.specs.Deterministic.{DeterministicAutomaton, IsAutomatonOf, states_of, next_of, ends_of}
use Rattle.marker_dfa.proofs.Lists.{get_within, one_value}
use Rattle.marker_dfa.proofs.Pigeons.{fits, function_of}
use Rattle.marker_dfa.proofs.Tracks.{Placed, same_move}
use Rattle.span_algebra.specs.TreeLaws.{IsRenumbered}
use Rattle.span_algebra.proofs.SetLaws.{AreMatched, turned}

-- a state's step, and its end
abbrev pub Goes : DeterministicAutomaton → ℕ → ℕ → ℕ → ℕ → Type 0
Goes d q m b r = next_of d q m b ≡ Some r

abbrev pub EndsAt : DeterministicAutomaton → ℕ → ℕ → Type 0
EndsAt d q m = Contains (ends_of d q) m

-- Q pairs all states of two automata, and steps and ends go with it
pub record AreSame (d e : DeterministicAutomaton) (Q : ℕ → ℕ → Type 0) : Type 0 where
  pub variables : d.variables ≡ e.variables
  pub states : AreMatched (states_of d) (states_of e) (Goes d) (Goes e) (EndsAt d) (EndsAt e) Q
  pub within : (q r : ℕ) → Q q r → (q < states_of d) × (r < states_of e)
  pub right : (q : ℕ) → q < states_of d → (r : ℕ) × Q q r
  pub left : (r : ℕ) → r < states_of e → (q : ℕ) × Q q r

pub turned-same : (d e : DeterministicAutomaton) (Q : ℕ → ℕ → Type 0) → AreSame d e Q → AreSame e d (λ r q. Q q r)
turned-same d e Q h = record {
  variables = sym h.variables;
  states = turned h.states;
  within = λ r q x. (let w = h.within q r x in (w.1, w.0));
  right = h.left;
  left = h.right;
}

module _ {n : ℕ} {S : ℕ → ℕ → ℕ → ℕ → Type 0} {E : ℕ → ℕ → Type 0} (d e : DeterministicAutomaton) (f : IsAutomatonOf n S E d) (g : IsAutomatonOf n S E e) where
  index-one : (q r p : ℕ) → Placed f.subsets g.subsets q r → Placed f.subsets g.subsets q p → r ≡ p
  index-one q r p s t = g.sets.apart r p s.0 s.2 (subst (λ (z : Subset). slice_get g.subsets p ≡ Some z) (one_value f.subsets q t.0 s.0 t.1 s.1) t.2)

  index-right : (q : ℕ) → q < states_of d → (r : ℕ) × Placed f.subsets g.subsets q r
  index-right q lt =
      let x = get_or f.subsets q [] in
      let at : slice_get f.subsets q ≡ Some x = slice_get-get_or f.subsets q [] (omega (arith, lt, f.states)) in
      let r = g.all x (f.sets.reached q x at) in
      (r.0, (x, at, r.1))

  index-forth : (q r m b p : ℕ) → Placed f.subsets g.subsets q r → Goes d q m b p → (v : ℕ) × Goes e r m b v × Placed f.subsets g.subsets p v
  index-forth q r m b p s step = by (next_of e r m b) refl (f.goes q m b p s.0 s.1 step)
    where
      by : (o : Option ℕ) → next_of e r m b ≡ o → (y : Subset) × (i : ℕ) × (slice_get f.subsets p ≡ Some y) × IsMove n S s.0 m b y × IsIn y i → (v : ℕ) × Goes e r m b v × Placed f.subsets g.subsets p v
      by None none y = let o = (y.3.members y.1).0 y.4 in absurd (g.stays r m b s.0 s.2 none o.0 y.1 o.1 o.2)
      by (Some v) some y =
          let z = g.goes r m b v s.0 s.2 some in
          (v, some, (y.0, y.2, subst (λ (w : Subset). slice_get g.subsets v ≡ Some w) (same_move n S s.0 z.0 y.0 m b z.3 y.3) z.2))

pub same-automata : {n : ℕ} {S : ℕ → ℕ → ℕ → ℕ → Type 0} {E : ℕ → ℕ → Type 0} (d e : DeterministicAutomaton) (f : IsAutomatonOf n S E d) (g : IsAutomatonOf n S E e) → d.variables ≡ e.variables → AreSame d e (Placed f.subsets g.subsets)
same-automata {n = n} {S = S} {E = E} d e f g variables = record {
  variables = variables;
  states = record {
    starts = (start_set n, f.start, g.start);
    within = λ q r s. ((λ lt. (within q r s).1), (λ lt. (within q r s).0));
    one_right = index-one d e f g;
    one_left = λ q p r s t. index-one e d g f r q p (s.0, s.2, s.1) (t.0, t.2, t.1);
    forth = index-forth d e f g;
    back = λ q r m b v s step. (let p = index-forth e d g f r q m b v (s.0, s.2, s.1) step in (p.0, p.1, (p.2.0, p.2.2, p.2.1)));
    ends = λ q r m s. (let x = f.ends_are q m s.0 s.1 in let y = g.ends_are r m s.0 s.2 in ((λ c. y.1 (x.0 c)), (λ c. x.1 (y.0 c))));
  };
  within = within;
  right = index-right d e f g;
  left = λ r lt. (let q = index-right e d g f r lt in (q.0, (q.1.0, q.1.2, q.1.1)));
}
  where
    within : (q r : ℕ) → Placed f.subsets g.subsets q r → (q < states_of d) × (r < states_of e)
    within q r s = (omega (arith, get_within f.subsets q s.0 s.1, f.states), omega (arith, get_within g.subsets r s.0 s.2, g.states))

pub renumbered : (d e : DeterministicAutomaton) (Q : ℕ → ℕ → Type 0) → AreSame d e Q → IsRenumbered d e
renumbered d e Q h = by (function_of (states_of d) Q h.right) (function_of (states_of e) (λ r q. Q q r) h.left)
  where
    by : (f : ℕ → ℕ) × ((q : ℕ) → q < states_of d → Q q (f q)) → (g : ℕ → ℕ) × ((r : ℕ) → r < states_of e → Q (g r) r) → IsRenumbered d e
    by to from =
        let low = h.within 0 0 h.states.starts in
        let no_more = fits (states_of d) (states_of e) Q h.right (λ q r x. (h.within q r x).1) h.states.one_left in
        let no_fewer = fits (states_of e) (states_of d) (λ r q. Q q r) h.left (λ r q x. (h.within q r x).0) (λ r p q x y. h.states.one_right q r p x y) in
        record {
          to = to.0;
          from = from.0;
          variables = h.variables;
          states = omega (arith, no_more, no_fewer);
          start = h.states.one_right 0 (to.0 0) 0 (to.1 0 low.0) h.states.starts;
          there = λ q lt. (let x = to.1 q lt in let w = (h.within q (to.0 q) x).1 in (w, h.states.one_left (from.0 (to.0 q)) q (to.0 q) (from.1 (to.0 q) w) x));
          back = λ r lt. (let x = from.1 r lt in let w = (h.within (from.0 r) r x).0 in (w, h.states.one_right (from.0 r) (to.0 (from.0 r)) r (to.1 (from.0 r) w) x));
          steps = λ q m b r lq lr. (
            (λ s. (let v = h.states.forth q (to.0 q) m b r (to.1 q lq) s in subst (λ (z : ℕ). next_of e (to.0 q) m b ≡ Some z) (h.states.one_right r v.0 (to.0 r) v.2 (to.1 r lr)) v.1)),
            (λ s. (let v = h.states.back q (to.0 q) m b (to.0 r) (to.1 q lq) s in subst (λ (z : ℕ). next_of d q m b ≡ Some z) (h.states.one_left v.0 r (to.0 r) v.2 (to.1 r lr)) v.1)),
          );
          ends = λ q m lt. h.states.ends q (to.0 q) m (to.1 q lt);
        }
