-- Joins of automata that differ in the numbers of their states alone.
use Rattle.std.proofs.Common.{◌≡◌, ℕ, ◌<◌, ◌≤◌, List, refl, subst, arith}
use Rattle.marker_dfa.specs.Deterministic.{DeterministicAutomaton, states_of}
use Rattle.span_algebra.specs.Renaming.{both_names, mark_for}
use Rattle.span_algebra.specs.TreeAutomaton.{JoinEnd, JoinStep, join_size, pair_of}
use Rattle.span_algebra.proofs.CopyLaws.{step-within, end-within}
use Rattle.span_algebra.proofs.SetLaws.{AreMatched}
use Rattle.span_algebra.proofs.TreeMatches.{AreSame, turned-same}

-- occurrences of two joins whose states are paired
pub record JoinPair (A B : ℕ → ℕ → Type 0) (o u : ℕ) : Type 0 where
  pub left : ℕ
  pub right : ℕ
  pub other_left : ℕ
  pub other_right : ℕ
  pub left_pair : A left other_left
  pub right_pair : B right other_right
  pub here : o ≡ pair_of left right
  pub there : u ≡ pair_of other_left other_right

pairs-flipped : (A B : ℕ → ℕ → Type 0) (o u : ℕ) → JoinPair A B o u → JoinPair (λ r q. A q r) (λ r q. B q r) u o
pairs-flipped A B o u x = record {
  left = x.other_left;
  right = x.other_right;
  other_left = x.left;
  other_right = x.right;
  left_pair = x.left_pair;
  right_pair = x.right_pair;
  here = x.there;
  there = x.here;
}

module _ (va vb : List (List ℕ)) (a a' b b' : DeterministicAutomaton) (A B : ℕ → ℕ → Type 0) (ha : AreSame a a' A) (hb : AreSame b b' B) (few : states_of b ≤ 1024) (few' : states_of b' ≤ 1024) where
  pair-within : (o u : ℕ) → JoinPair A B o u → (o < join_size a) × (u < join_size a')
  pair-within o u x =
      let l = ha.within x.left x.other_left x.left_pair in
      let r = hb.within x.right x.other_right x.right_pair in
      (omega (arith, l.0, r.0, few, x.here), omega (arith, l.1, r.1, few', x.there))

  -- the partners of the two states of a pair
  pub record States (q r u : ℕ) : Type 0 where
    pub left : ℕ
    pub right : ℕ
    pub left_pair : A q left
    pub right_pair : B r right
    pub there : u ≡ pair_of left right

  states-of : (o u q r : ℕ) → JoinPair A B o u → o ≡ pair_of q r → r < states_of b → States q r u
  states-of o u q r x e lt =
      let low : x.right < states_of b = (hb.within x.right x.other_right x.right_pair).0 in
      let l : x.left ≡ q = omega (arith, e, x.here, low, lt, few) in
      let k : x.right ≡ r = omega (arith, e, x.here, low, lt, few) in
      record { left = x.other_left; right = x.other_right; left_pair = subst (λ (z : ℕ). A z x.other_left) l x.left_pair; right_pair = subst (λ (z : ℕ). B z x.other_right) k x.right_pair; there = x.there }

  pair-one : (o u v : ℕ) → JoinPair A B o u → JoinPair A B o v → u ≡ v
  pair-one o u v x y =
      let s = states-of o v x.left x.right y x.here (hb.within x.right x.other_right x.right_pair).0 in
      let l = ha.states.one_right x.left x.other_left s.left x.left_pair s.left_pair in
      let r = hb.states.one_right x.right x.other_right s.right x.right_pair s.right_pair in
      omega (arith, x.there, s.there, l, r)

  join-forth : (o u m c p : ℕ) → JoinPair A B o u → JoinStep a va b vb o m c p → (v : ℕ) × JoinStep a' va b' vb u m c v × JoinPair A B p v
  join-forth o u m c p x s =
      let names = both_names va vb in
      let k = states-of o u s.left s.right x s.from (step-within b s.right (mark_for vb names m) c s.next_right s.right_step) in
      let l = ha.states.forth s.left k.left (mark_for va names m) c s.next_left k.left_pair s.left_step in
      let r = hb.states.forth s.right k.right (mark_for vb names m) c s.next_right k.right_pair s.right_step in (
        pair_of l.0 r.0,
        record { left = k.left; right = k.right; next_left = l.0; next_right = r.0; from = k.there; byte = s.byte; mark = s.mark; left_step = l.1; right_step = r.1; leads = refl },
        record { left = s.next_left; right = s.next_right; other_left = l.0; other_right = r.0; left_pair = l.2; right_pair = r.2; here = s.leads; there = refl },
      )

  join-ends : (o u m : ℕ) → JoinPair A B o u → JoinEnd a va b vb o m → JoinEnd a' va b' vb u m
  join-ends o u m x s =
      let names = both_names va vb in
      let k = states-of o u s.left s.right x s.from (end-within b s.right (mark_for vb names m) s.right_end) in
      record {
        left = k.left;
        right = k.right;
        from = k.there;
        mark = s.mark;
        left_end = (ha.states.ends s.left k.left (mark_for va names m) k.left_pair).0 s.left_end;
        right_end = (hb.states.ends s.right k.right (mark_for vb names m) k.right_pair).0 s.right_end;
      }

module _ (va vb : List (List ℕ)) (a a' b b' : DeterministicAutomaton) (A B : ℕ → ℕ → Type 0) (ha : AreSame a a' A) (hb : AreSame b b' B) (few : states_of b ≤ 1024) (few' : states_of b' ≤ 1024) where
  abbrev ga : AreSame a' a (λ r q. A q r)
  ga = turned-same a a' A ha

  abbrev gb : AreSame b' b (λ r q. B q r)
  gb = turned-same b b' B hb

  pub join-matched : AreMatched (join_size a) (join_size a') (JoinStep a va b vb) (JoinStep a' va b' vb) (JoinEnd a va b vb) (JoinEnd a' va b' vb) (JoinPair A B)
  join-matched = record {
    starts = record { left = 0; right = 0; other_left = 0; other_right = 0; left_pair = ha.states.starts; right_pair = hb.states.starts; here = refl; there = refl };
    within = λ o u x. (let w = pair-within va vb a a' b b' A B ha hb few few' o u x in ((λ lt. w.1), (λ lt. w.0)));
    one_right = pair-one va vb a a' b b' A B ha hb few few';
    one_left = λ o p u x y. pair-one va vb a' a b' b (λ r q. A q r) (λ r q. B q r) ga gb few' few u o p (pairs-flipped A B o u x) (pairs-flipped A B p u y);
    forth = join-forth va vb a a' b b' A B ha hb few few';
    back = λ o u m c v x t. (let p = join-forth va vb a' a b' b (λ r q. A q r) (λ r q. B q r) ga gb few' few u o m c v (pairs-flipped A B o u x) t in (p.0, p.1, pairs-flipped (λ r q. A q r) (λ r q. B q r) v p.0 p.2));
    ends = λ o u m x. (join-ends va vb a a' b b' A B ha hb few few' o u m x, join-ends va vb a' a b' b (λ r q. A q r) (λ r q. B q r) ga gb few' few u o m (pairs-flipped A B o u x));
  }
