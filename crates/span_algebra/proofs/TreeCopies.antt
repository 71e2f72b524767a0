-- Unions and projections of automata that differ in the numbers of their states alone.
use Rattle.std.proofs.Common.{◌≡◌, ℕ, suc, ◌+◌, ◌<◌, inl, inr, List, refl, sym, subst, ◌∙◌, arith}
use Rattle.marker_dfa.specs.Deterministic.{DeterministicAutomaton, states_of}
use Rattle.span_algebra.specs.Renaming.{both_names}
use Rattle.span_algebra.specs.TreeAutomaton.{CopiedEnd, CopiedStep, IsAt, ProjectEnd, ProjectStep, UnionEnd, UnionStep, union_size}
use Rattle.span_algebra.proofs.CopyLaws.{step-within, end-within}
use Rattle.span_algebra.proofs.SetLaws.{AreMatched}
use Rattle.span_algebra.proofs.TreeMatches.{AreSame, turned-same}

-- copied steps and ends go with the states
module _ (to from : List (List ℕ)) (base other : ℕ) (a a' : DeterministicAutomaton) (Q : ℕ → ℕ → Type 0) (h : AreSame a a' Q) where
  copied-step : (o u m b p r : ℕ) (s : CopiedStep to from base a o m b p) → Q s.state r → IsAt other u r → (v : ℕ) × Q s.next v × CopiedStep to from other a' u m b (other + v)
  copied-step o u m b p r s x at =
      let w = h.states.forth s.state r s.own_mark b s.next x s.step in
      (w.0, w.2, record { state = r; next = w.0; own_mark = s.own_mark; at = at; byte = s.byte; step = w.1; mark = s.mark; leads = refl })

  copied-end : (o u m r : ℕ) (s : CopiedEnd to from base a o m) → Q s.state r → IsAt other u r → CopiedEnd to from other a' u m
  copied-end o u m r s x at = record { state = r; own_mark = s.own_mark; at = at; may_end = (h.states.ends s.state r s.own_mark x).0 s.may_end; mark = s.mark }

-- occurrences of two unions: both starts, or copies of paired states
pub data UnionPair (na ka : ℕ) (A B : ℕ → ℕ → Type 0) (o u : ℕ) : Type 0 where
  at_start : o ≡ 0 → u ≡ 0 → UnionPair na ka A B o u
  at_left : (q r : ℕ) → A q r → o ≡ 1 + q → u ≡ 1 + r → UnionPair na ka A B o u
  at_right : (q r : ℕ) → B q r → o ≡ suc na + q → u ≡ suc ka + r → UnionPair na ka A B o u

pair-flipped : (na ka : ℕ) (A B : ℕ → ℕ → Type 0) (o u : ℕ) → UnionPair na ka A B o u → UnionPair ka na (λ r q. A q r) (λ r q. B q r) u o
pair-flipped na ka A B o u (at_start e f) = at_start f e
pair-flipped na ka A B o u (at_left q r x e f) = at_left r q x f e
pair-flipped na ka A B o u (at_right q r x e f) = at_right r q x f e

module _ (va vb : List (List ℕ)) (a a' b b' : DeterministicAutomaton) (A B : ℕ → ℕ → Type 0) (ha : AreSame a a' A) (hb : AreSame b b' B) where
  abbrev Pair : ℕ → ℕ → Type 0
  Pair o u = UnionPair (states_of a) (states_of a') A B o u

  pair-within : (o u : ℕ) → Pair o u → (o < union_size a b) × (u < union_size a' b')
  pair-within o u (at_start e f) = (omega (arith, e), omega (arith, f))
  pair-within o u (at_left q r x e f) = let w = ha.within q r x in (omega (arith, e, w.0), omega (arith, f, w.1))
  pair-within o u (at_right q r x e f) = let w = hb.within q r x in (omega (arith, e, w.0), omega (arith, f, w.1))

  pair-one : (o u v : ℕ) → Pair o u → Pair o v → u ≡ v
  pair-one o u v (at_start e f) (at_start g i) = f ∙ sym i
  pair-one o u v (at_start e f) (at_left q r x g i) = absurd (omega (arith, e, g))
  pair-one o u v (at_start e f) (at_right q r x g i) = absurd (omega (arith, e, g))
  pair-one o u v (at_left q r x e f) (at_start g i) = absurd (omega (arith, e, g))
  pair-one o u v (at_left q r x e f) (at_left s t y g i) =
      let same : s ≡ q = omega (arith, e, g) in
      let k = ha.states.one_right q r t x (subst (λ (z : ℕ). A z t) same y) in
      omega (arith, f, i, k)
  pair-one o u v (at_left q r x e f) (at_right s t y g i) = absurd (omega (arith, e, g, (ha.within q r x).0))
  pair-one o u v (at_right q r x e f) (at_start g i) = absurd (omega (arith, e, g))
  pair-one o u v (at_right q r x e f) (at_left s t y g i) = absurd (omega (arith, e, g, (ha.within s t y).0))
  pair-one o u v (at_right q r x e f) (at_right s t y g i) =
      let same : s ≡ q = omega (arith, e, g) in
      let k = hb.states.one_right q r t x (subst (λ (z : ℕ). B z t) same y) in
      omega (arith, f, i, k)

  left-of : (o u q : ℕ) → Pair o u → IsAt 1 o q → q < states_of a → (r : ℕ) × A q r × IsAt 1 u r
  left-of o u q (at_start e f) (inl g) lt = absurd (omega (arith, e, g))
  left-of o u q (at_start e f) (inr g) lt = (0, subst (λ (z : ℕ). A z 0) (sym g.1) ha.states.starts, inr (f, refl))
  left-of o u q (at_left s r x e f) (inl g) lt = let same : s ≡ q = omega (arith, e, g) in (r, subst (λ (z : ℕ). A z r) same x, inl f)
  left-of o u q (at_left s r x e f) (inr g) lt = absurd (omega (arith, e, g.0))
  left-of o u q (at_right s r x e f) (inl g) lt = absurd (omega (arith, e, g, lt))
  left-of o u q (at_right s r x e f) (inr g) lt = absurd (omega (arith, e, g.0))

  right-of : (o u q : ℕ) → Pair o u → IsAt (suc (states_of a)) o q → (r : ℕ) × B q r × IsAt (suc (states_of a')) u r
  right-of o u q (at_start e f) (inl g) = absurd (omega (arith, e, g))
  right-of o u q (at_start e f) (inr g) = (0, subst (λ (z : ℕ). B z 0) (sym g.1) hb.states.starts, inr (f, refl))
  right-of o u q (at_left s r x e f) (inl g) = absurd (omega (arith, e, g, (ha.within s r x).0))
  right-of o u q (at_left s r x e f) (inr g) = absurd (omega (arith, e, g.0))
  right-of o u q (at_right s r x e f) (inl g) = let same : s ≡ q = omega (arith, e, g) in (r, subst (λ (z : ℕ). B z r) same x, inl f)
  right-of o u q (at_right s r x e f) (inr g) = absurd (omega (arith, e, g.0))

  union-forth : (o u m c p : ℕ) → Pair o u → UnionStep a va b vb o m c p → (v : ℕ) × UnionStep a' va b' vb u m c v × Pair p v
  union-forth o u m c p x (inl s) =
      let r = left-of o u s.state x s.at (step-within a s.state s.own_mark c s.next s.step) in
      let w = copied-step (both_names va vb) va 1 1 a a' A ha o u m c p r.0 s r.1 r.2 in
      (1 + w.0, inl w.2, at_left s.next w.0 w.1 s.leads refl)
  union-forth o u m c p x (inr s) =
      let r = right-of o u s.state x s.at in
      let w = copied-step (both_names va vb) vb (suc (states_of a)) (suc (states_of a')) b b' B hb o u m c p r.0 s r.1 r.2 in
      (suc (states_of a') + w.0, inr w.2, at_right s.next w.0 w.1 s.leads refl)

  union-ends : (o u m : ℕ) → Pair o u → UnionEnd a va b vb o m → UnionEnd a' va b' vb u m
  union-ends o u m x (inl s) =
      let r = left-of o u s.state x s.at (end-within a s.state s.own_mark s.may_end) in
      inl (copied-end (both_names va vb) va 1 1 a a' A ha o u m r.0 s r.1 r.2)
  union-ends o u m x (inr s) =
      let r = right-of o u s.state x s.at in
      inr (copied-end (both_names va vb) vb (suc (states_of a)) (suc (states_of a')) b b' B hb o u m r.0 s r.1 r.2)

module _ (va vb : List (List ℕ)) (a a' b b' : DeterministicAutomaton) (A B : ℕ → ℕ → Type 0) (ha : AreSame a a' A) (hb : AreSame b b' B) where
  abbrev Both : ℕ → ℕ → Type 0
  Both o u = UnionPair (states_of a) (states_of a') A B o u

  there : (o u : ℕ) → Both o u → UnionPair (states_of a') (states_of a) (λ r q. A q r) (λ r q. B q r) u o
  there o u x = pair-flipped (states_of a) (states_of a') A B o u x

  here : (o u : ℕ) → UnionPair (states_of a') (states_of a) (λ r q. A q r) (λ r q. B q r) u o → Both o u
  here o u x = pair-flipped (states_of a') (states_of a) (λ r q. A q r) (λ r q. B q r) u o x

  abbrev ga : AreSame a' a (λ r q. A q r)
  ga = turned-same a a' A ha

  abbrev gb : AreSame b' b (λ r q. B q r)
  gb = turned-same b b' B hb

  pub union-matched : AreMatched (union_size a b) (union_size a' b') (UnionStep a va b vb) (UnionStep a' va b' vb) (UnionEnd a va b vb) (UnionEnd a' va b' vb) Both
  union-matched = record {
    starts = at_start refl refl;
    within = λ o u x. (let w = pair-within va vb a a' b b' A B ha hb o u x in ((λ lt. w.1), (λ lt. w.0)));
    one_right = pair-one va vb a a' b b' A B ha hb;
    one_left = λ o p u x y. pair-one va vb a' a b' b (λ r q. A q r) (λ r q. B q r) ga gb u o p (there o u x) (there p u y);
    forth = union-forth va vb a a' b b' A B ha hb;
    back = λ o u m c v x t. (let p = union-forth va vb a' a b' b (λ r q. A q r) (λ r q. B q r) ga gb u o m c v (there o u x) t in (p.0, p.1, here p.0 v p.2));
    ends = λ o u m x. (union-ends va vb a a' b b' A B ha hb o u m x, union-ends va vb a' a b' b (λ r q. A q r) (λ r q. B q r) ga gb u o m (there o u x));
  }

-- an occurrence of a projection is a state
state-at : (o q : ℕ) → IsAt 0 o q → o ≡ q
state-at o q (inl e) = omega (arith, e)
state-at o q (inr e) = e.0 ∙ sym e.1

module _ (va keep : List (List ℕ)) (a a' : DeterministicAutomaton) (A : ℕ → ℕ → Type 0) (ha : AreSame a a' A) where
  project-forth : (o u m c p : ℕ) → A o u → ProjectStep a va keep o m c p → (v : ℕ) × ProjectStep a' va keep u m c v × A p v
  project-forth o u m c p x s =
      let self : u ≡ 0 + u = omega arith in
      let w = copied-step keep va 0 0 a a' A ha o u m c p u s (subst (λ (z : ℕ). A z u) (state-at o s.state s.at) x) (inl self) in
      let e : s.next ≡ p = omega (arith, s.leads) in
      let f : w.0 ≡ 0 + w.0 = omega arith in
      (0 + w.0, w.2, subst (λ (z : ℕ). A p z) f (subst (λ (z : ℕ). A z w.0) e w.1))

  project-ends : (o u m : ℕ) → A o u → ProjectEnd a va keep o m → ProjectEnd a' va keep u m
  project-ends o u m x s =
      let self : u ≡ 0 + u = omega arith in
      copied-end keep va 0 0 a a' A ha o u m u s (subst (λ (z : ℕ). A z u) (state-at o s.state s.at) x) (inl self)

pub project-matched : (va keep : List (List ℕ)) (a a' : DeterministicAutomaton) (A : ℕ → ℕ → Type 0) → AreSame a a' A
    → AreMatched (states_of a) (states_of a') (ProjectStep a va keep) (ProjectStep a' va keep) (ProjectEnd a va keep) (ProjectEnd a' va keep) A
project-matched va keep a a' A h = record {
  starts = h.states.starts;
  within = h.states.within;
  one_right = h.states.one_right;
  one_left = h.states.one_left;
  forth = project-forth va keep a a' A h;
  back = λ o u m c v x t. project-forth va keep a' a (λ r q. A q r) (turned-same a a' A h) u o m c v x t;
  ends = λ o u m x. (project-ends va keep a a' A h o u m x, project-ends va keep a' a (λ r q. A q r) (turned-same a a' A h) u o m x);
}
