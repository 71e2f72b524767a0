-- The pairs that are found are those that the join reaches.
use Rattle.std.proofs.Common.{◌≡◌, ℕ, zero, suc, ◌+◌, ◌^◌, ◌<◌, ◌≤◌, ◌↔◌, ◌⊎◌, inl, inr, List, [], ◌∷◌, length, map, Some, Contains, slice_get, refl, sym, ap, subst, ◌∙◌, arith}
use Rattle.marker_nfa.specs.Parts.{Adds}
use Rattle.marker_nfa.specs.declared.nfa.Edge.{Edge}
use Rattle.marker_dfa.specs.Deterministic.{DeterministicAutomaton, IsDeterministic, states_of, next_of, marks_of}
use Rattle.marker_dfa.specs.Reached.{CountIsAbove, IsIn, IsMove, IsReached, Subset, next, single, start}
use Rattle.marker_dfa.proofs.Lists.{at_contains, contains_at, get_within, length_map, one_only, one_value}
use Rattle.marker_dfa.proofs.Tracks.{single_in, single_only, single_size}
use Rattle.span_algebra.specs.declared.classes.Class.{Class}
use Rattle.span_algebra.specs.declared.joints.Joint.{Joint}
use Rattle.span_algebra.specs.declared.joints.Meeting.{Meeting}
use Rattle.span_algebra.specs.declared.pairs.Pair.{Pair}
use Rattle.span_algebra.specs.declared.pairs.PairStep.{PairStep}
use Rattle.span_algebra.specs.declared.refusal.AlgebraRefusal.{AlgebraRefusal}
use Rattle.span_algebra.specs.declared.refusal.AlgebraRefusal.TheVariants.{TooManyVariables, TooManyStates, NoMemory}
use Rattle.span_algebra.specs.Refusals.{IsRefused}
use Rattle.span_algebra.specs.Renaming.{both_names, mark_for}
use Rattle.span_algebra.specs.Joints.{IsJointAmong, IsMeeting}
use Rattle.span_algebra.specs.Making.{AreClasses}
use Rattle.span_algebra.specs.Pairs.{AreDistinct, Gains, IsBetween, IsNumbered, IsNumberedAmong, IsTargetAmong, NoRoom, number_of}
use Rattle.span_algebra.specs.Products.{AreFound, AreShortSteps, IsAmongFirst, IsPair, IsPairStepAmong, IsStepOf, IsStepOfFirst}
use Rattle.span_algebra.specs.TreeAutomaton.{JoinStep, join_size, pair_of}
use Rattle.span_algebra.proofs.CopyLaws.{step-within}
use Rattle.span_algebra.proofs.JoinLaws.{AreApart, same-pair}
use Rattle.span_algebra.proofs.JointLaws.{joint-forth, joint-back, short-with}
use Rattle.span_algebra.proofs.SetLaws.{at-index}

-- a step of which there is one at most leads from a set of one to a set of one
module _ (n : ℕ) (Step : ℕ → ℕ → ℕ → ℕ → Type 0) (one : (o m c p q : ℕ) → Step o m c p → Step o m c q → p ≡ q) where
  single-move : (o m c p : ℕ) → o < n → p < n → Step o m c p → IsMove n Step (single n o) m c (single n p)
  single-move o m c p lo lp s = record {
    size = single_size n p;
    members = λ q. (
      (λ i. (o, single_in n o lo, subst (λ (x : ℕ). Step o m c x) (sym (single_only n p q i)) s)),
      (λ g. subst (λ (x : ℕ). IsIn (single n p) x) (one o m c p q s (subst (λ (x : ℕ). Step x m c q) (single_only n o g.0 g.1) g.2)) (single_in n p lp)),
    );
  }

  pub single-next : (o m c p : ℕ) → o < n → p < n → Step o m c p → IsReached n Step (single n o) → IsReached n Step (single n p)
  single-next o m c p lo lp s r = next (single n o) (single n p) m c p r (single-move o m c p lo lp s) (single_in n p lp)

-- the element that an element of a list of values comes from
pub get-map : {X Y : Type 0} (f : X → Y) (xs : List X) (q : ℕ) (y : Y) → slice_get (map f xs) q ≡ Some y → (x : X) × (slice_get xs q ≡ Some x) × (f x ≡ y)
get-map f [] q y e = absurd (cc)
get-map f (x ∷ xs) zero y e = let s : f x ≡ y = cc in (x, refl, s)
get-map f (x ∷ xs) (suc q) y e = get-map f xs q y e

-- a pair is known by its number
pub pair-known : (p q : Pair) → p.right < 1024 → q.right < 1024 → number_of p ≡ number_of q → p ≡ q
pair-known p q lp lq e = let s = same-pair p.left p.right q.left q.right lp lq e in λ i. record { left = s.0 i; right = s.1 i }

-- more reached sets of one than a limit
pub too-many : (most n : ℕ) (Step : ℕ → ℕ → ℕ → ℕ → Type 0) (pairs : List Pair) → most < length pairs → AreDistinct pairs
    → ((p : Pair) → Contains pairs p → (number_of p < n) × (p.right < 1024) × IsReached n Step (single n (number_of p))) → CountIsAbove most n Step
too-many most n Step pairs many apart reached = record {
  subsets = map alone pairs;
  many = omega (arith, many, length_map alone pairs);
  sets = record {
    apart = once;
    reached = λ q x e. (let k = get-map alone pairs q x e in subst (λ (y : Subset). IsReached n Step y) k.2 ((reached k.0 (contains_at pairs q k.0 k.1)).2));
  };
}
  where
    alone : Pair → Subset
    alone p = single n (number_of p)

    once : (q r : ℕ) (x : Subset) → slice_get (map alone pairs) q ≡ Some x → slice_get (map alone pairs) r ≡ Some x → q ≡ r
    once q r x e g =
        let k = get-map alone pairs q x e in
        let l = get-map alone pairs r x g in
        let h = reached k.0 (contains_at pairs q k.0 k.1) in
        let f = reached l.0 (contains_at pairs r l.0 l.1) in
        let i : IsIn (single n (number_of l.0)) (number_of k.0) = subst (λ (y : Subset). IsIn y (number_of k.0)) (k.2 ∙ sym l.2) (single_in n (number_of k.0) h.0) in
        let same : k.0 ≡ l.0 = pair-known k.0 l.0 h.1 f.1 (single_only n (number_of l.0) (number_of k.0) i) in
        apart q r l.0 (k.1 ∙ ap Some same) l.1

module _ (a : DeterministicAutomaton) (va : List (List ℕ)) (b : DeterministicAutomaton) (vb : List (List ℕ)) (da : IsDeterministic a) (db : IsDeterministic b) (size_a : length va ≡ a.variables) (size_b : length vb ≡ b.variables)
    (apart_a : AreApart va) (apart_b : AreApart vb) (apart : AreApart (both_names va vb)) (few : length (both_names va vb) ≤ 8)
    (t : Meeting) (meets : IsMeeting va vb t) (classes : List Class) (ca : AreClasses a classes) (cb : AreClasses b classes) where
  abbrev names : List (List ℕ)
  names = both_names va vb

  abbrev Step : ℕ → ℕ → ℕ → ℕ → Type 0
  Step = JoinStep a va b vb

  abbrev size : ℕ
  size = join_size a

  left-small : (q c m : ℕ) → Contains (marks_of a q c) m → m < 4 ^ length va
  left-small q c m h = subst (λ (k : ℕ). m < 4 ^ k) (sym size_a) (da.marks_small q c m h)

  right-small : (q c m : ℕ) → Contains (marks_of b q c) m → m < 4 ^ length vb
  right-small q c m h = subst (λ (k : ℕ). m < 4 ^ k) (sym size_b) (db.marks_small q c m h)

  pub short-steps : AreShortSteps a t
  short-steps = record {
    marks = λ q c x y h. short-with va vb apart_a apart_b t meets few x y (left-small q c x h);
    ends = λ q x y h. short-with va vb apart_a apart_b t meets few x y (subst (λ (k : ℕ). x < 4 ^ k) (sym size_a) (da.ends_small q x h));
  }

  one-step : (o m c p q : ℕ) → Step o m c p → Step o m c q → p ≡ q
  one-step o m c p q s r =
      let ls : s.right < states_of b = step-within b s.right _ c s.next_right s.right_step in
      let lr : r.right < states_of b = step-within b r.right _ c r.next_right r.right_step in
      let same = same-pair s.left s.right r.left r.right (omega (arith, ls, db.few_states)) (omega (arith, lr, db.few_states)) (sym s.from ∙ r.from) in
      let el : Some s.next_left ≡ Some r.next_left = sym s.left_step ∙ ap (λ k. next_of a k (mark_for va names m) c) same.0 ∙ r.left_step in
      let er : Some s.next_right ≡ Some r.next_right = sym s.right_step ∙ ap (λ k. next_of b k (mark_for vb names m) c) same.1 ∙ r.right_step in
      let x : s.next_left ≡ r.next_left = cc in
      let y : s.next_right ≡ r.next_right = cc in
      s.leads ∙ (λ i. pair_of (x i) (y i)) ∙ sym r.leads

  small-pair : (p : Pair) → IsPair a b p → number_of p < size
  small-pair p h = omega (arith, h.0, h.1, db.few_states)

  below-pair : (p : Pair) → IsPair a b p → p.right < 1024
  below-pair p h = omega (arith, h.1, db.few_states)

  -- the pair to which a step leads
  leads-to : (s : PairStep) (h : IsStepOf Step classes s) → s.to ≡ record { left = h.step.next_left; right = h.step.next_right }
  leads-to s h =
      let lt : h.step.next_right < states_of b = db.within h.step.right _ h.class.first h.step.next_right h.step.right_step in
      pair-known s.to (record { left = h.step.next_left; right = h.step.next_right }) h.below (omega (arith, lt, db.few_states)) h.step.leads

  step-pair : (s : PairStep) → IsStepOf Step classes s → IsPair a b s.to
  step-pair s h = subst (λ (x : Pair). IsPair a b x) (sym (leads-to s h)) (da.within h.step.left _ h.class.first h.step.next_left h.step.left_step, db.within h.step.right _ h.class.first h.step.next_right h.step.right_step)

  step-to : (p : Pair) (s : PairStep) → IsPairStepAmong a b t p classes s → (s.from ≡ p) × IsStepOf Step classes s
  step-to p s h =
      let c = h.0 in
      let j = h.2.0 in
      let g = h.2.1 in
      let nl = h.2.2.0 in
      let nr = h.2.2.1 in
      let is = h.2.2.4 in
      let k = joint-back va vb apart_a apart_b t meets j.left j.right j.mark (left-small p.left c.first j.left g.in_left) (right-small p.right c.first j.right g.in_right) g.joint in
      let lt : nr < states_of b = db.within p.right j.right c.first nr h.2.2.3 in
      let st : Step (number_of p) j.mark c.first (pair_of nl nr) = record {
        left = p.left;
        right = p.right;
        next_left = nl;
        next_right = nr;
        from = refl;
        byte = (ca.alike c c.first h.1 (ca.own c h.1)).0;
        mark = k.0;
        left_step = ap (λ x. next_of a p.left x c.first) k.1 ∙ h.2.2.2;
        right_step = ap (λ x. next_of b p.right x c.first) k.2 ∙ h.2.2.3;
        leads = refl;
      } in (
        ap (λ (x : PairStep). x.from) is,
        record {
          class = c;
          among = h.1;
          letters = ap (λ (x : PairStep). x.letters) is;
          step = subst (λ (x : PairStep). Step (number_of x.from) x.mark c.first (number_of x.to)) (sym is) st;
          below = subst (λ (x : PairStep). x.to.right < 1024) (sym is) (omega (arith, lt, db.few_states));
        },
      )

  step-from : (p : Pair) (s : PairStep) → p.right < states_of b → s.from ≡ p → IsStepOf Step classes s → IsPairStepAmong a b t p classes s
  step-from p s lt from h =
      let c = h.class in
      let st = h.step in
      let own : st.right < states_of b = step-within b st.right _ c.first st.next_right st.right_step in
      let same = same-pair st.left st.right p.left p.right (omega (arith, own, db.few_states)) (omega (arith, lt, db.few_states)) (sym st.from ∙ ap number_of from) in
      let ml = mark_for va names s.mark in
      let mr = mark_for vb names s.mark in
      let sl : next_of a p.left ml c.first ≡ Some st.next_left = subst (λ (k : ℕ). next_of a k ml c.first ≡ Some st.next_left) same.0 st.left_step in
      let sr : next_of b p.right mr c.first ≡ Some st.next_right = subst (λ (k : ℕ). next_of b k mr c.first ≡ Some st.next_right) same.1 st.right_step in
      let j : Joint = record { mark = s.mark; left = ml; right = mr } in
      let g : IsJointAmong t (marks_of a p.left c.first) (marks_of b p.right c.first) j = record {
        in_left = (da.marks p.left c.first ml).1 (st.next_left, sl);
        in_right = (db.marks p.right c.first mr).1 (st.next_right, sr);
        joint = joint-forth va vb apart_a apart_b t meets s.mark apart st.mark;
      } in
      let to = leads-to s h in
      (c, h.among, (j, g, (st.next_left, st.next_right, sl, sr, λ i. record { from = from i; mark = s.mark; letters = h.letters i; to = to i })))

  pub found-start : (most : ℕ) (pairs : List Pair) → 1 ≤ most → pairs ≡ record { left = 0; right = 0 } ∷ [] → AreFound most a b size Step classes 0 pairs []
  found-start most pairs room e = subst (λ (l : List Pair). AreFound most a b size Step classes 0 l []) (sym e) (record {
    few = record { apart = λ i j p x y. (first i p x ∙ sym (first j p y)); few = omega (arith, room) };
    passed = omega arith;
    start = refl;
    within = λ p c. subst (λ (x : Pair). IsPair a b x) (sym (one_only zeros p c)) (da.has_start, db.has_start);
    reached = λ p c. subst (λ (x : Pair). IsReached size Step (single size (number_of x))) (sym (one_only zeros p c)) start;
    edges_are = λ x. ((λ c. absurd (omega (arith, c.1))), (λ k. absurd (omega (arith, k.1.0.1))));
    closed = λ s k. absurd (omega (arith, k.0.1));
  })
    where
      zeros : Pair
      zeros = record { left = 0; right = 0 }

      first : (i : ℕ) (p : Pair) → slice_get (zeros ∷ []) i ≡ Some p → i ≡ 0
      first i p x = omega (arith, get_within (zeros ∷ []) i p x)

  module _ (most k : ℕ) (pairs : List Pair) (edges : List Edge) (h : AreFound most a b size Step classes k pairs edges) (o : Pair) (at : slice_get pairs k ≡ Some o)
      (found : List PairStep) (are : (s : PairStep) → Contains found s ↔ IsPairStepAmong a b t o classes s) where
    here : Contains pairs o
    here = contains_at pairs k o at

    found-to : (s : PairStep) → Contains found s → (s.from ≡ o) × IsStepOf Step classes s
    found-to s c = step-to o s ((are s).0 c)

    found-from : (s : PairStep) → s.from ≡ o → IsStepOf Step classes s → Contains found s
    found-from s e w = (are s).1 (step-from o s ((h.within o here).1) e w)

    target-pair : (p : Pair) → IsTargetAmong found p → IsPair a b p
    target-pair p g = subst (λ (x : Pair). IsPair a b x) (sym g.2) (step-pair g.0 ((found-to g.0 g.1).1))

    target-reached : (p : Pair) → IsTargetAmong found p → IsReached size Step (single size (number_of p))
    target-reached p g =
        let s = g.0 in
        let w = found-to s g.1 in
        let st : Step (number_of o) s.mark w.1.class.first (number_of s.to) = subst (λ (x : Pair). Step (number_of x) s.mark w.1.class.first (number_of s.to)) w.0 w.1.step in
        let r = single-next size Step one-step (number_of o) s.mark w.1.class.first (number_of s.to) (small-pair o (h.within o here)) (small-pair s.to (step-pair s w.1)) st (h.reached o here) in
        subst (λ (x : Pair). IsReached size Step (single size (number_of x))) (sym g.2) r

    either-pair : (p : Pair) → Contains pairs p ⊎ IsTargetAmong found p → IsPair a b p
    either-pair p (inl c) = h.within p c
    either-pair p (inr g) = target-pair p g

    either-reached : (p : Pair) → Contains pairs p ⊎ IsTargetAmong found p → IsReached size Step (single size (number_of p))
    either-reached p (inl c) = h.reached p c
    either-reached p (inr g) = target-reached p g

    -- both pairs of a step are found
    pub found-between : (more : List Pair) → Gains most (IsTargetAmong found) pairs more → (s : PairStep) → Contains found s → IsBetween more s
    found-between more g s c = (subst (λ (p : Pair). Contains more p) (sym ((found-to s c).0)) (contains_at more k o (g.stays k o at)), g.all s.to (s, c, refl))

    pub found-next : (more : List Pair) (all : List Edge) → Gains most (IsTargetAmong found) pairs more → Adds edges all (IsNumberedAmong more found) → AreFound most a b size Step classes (k + 1) more all
    found-next more all g adds = record {
      few = g.few;
      passed = omega (arith, get_within more k o (g.stays k o at));
      start = g.stays 0 (record { left = 0; right = 0 }) h.start;
      within = λ p c. either-pair p (g.only p c);
      reached = λ p c. either-reached p (g.only p c);
      edges_are = λ x. ((λ c. to x ((adds x).0 c)), (λ w. (adds x).1 (from x w.0 w.1.0 w.1.1 w.2)));
      closed = λ s w. closed s w.0 w.1;
    }
      where
        later : (i : ℕ) (p : Pair) → slice_get pairs i ≡ Some p → slice_get more i ≡ Some p
        later i p e = g.stays i p e

        to : (x : Edge) → Contains edges x ⊎ IsNumberedAmong more found x → (s : PairStep) × IsStepOfFirst Step classes (k + 1) more s × IsNumbered more s x
        to x (inl c) =
            let w = (h.edges_are x).0 c in
            let f = w.1.0 in
            let n = w.2 in
            (w.0, ((f.0, omega (arith, f.1), later f.0 w.0.from f.2), w.1.1), record { from = later x.from w.0.from n.from; to = later x.to w.0.to n.to; mark = n.mark; letters = n.letters })
        to x (inr c) =
            let w = found-to c.0 c.1 in
            (c.0, ((k, omega arith, subst (λ (p : Pair). slice_get more k ≡ Some p) (sym w.0) (later k o at)), w.1), c.2)

        last : (i : ℕ) → i < k + 1 → (i < k) ⊎ (i ≡ k)
        last i n = grind arith

        -- a step of one of the first k pairs was there, and another one is among those found
        either : (s : PairStep) (i : ℕ) → slice_get more i ≡ Some s.from → IsStepOf Step classes s → (i < k) ⊎ (i ≡ k) → IsStepOfFirst Step classes k pairs s ⊎ Contains found s
        either s i e w (inl lt) =
            let old = at-index pairs i (omega (arith, lt, get_within pairs k o at)) in
            let same : old.0 ≡ s.from = one_value more i old.0 s.from (later i old.0 old.1) e in
            inl ((i, lt, old.1 ∙ ap Some same), w)
        either s i e w (inr n) =
            let there : slice_get more k ≡ Some s.from = subst (λ (j : ℕ). slice_get more j ≡ Some s.from) n e in
            let same : s.from ≡ o = one_value more k s.from o there (later k o at) in
            inr (found-from s same w)

        -- an index of a pair that was there is still its index
        earlier : (j : ℕ) (p : Pair) → Contains pairs p → slice_get more j ≡ Some p → slice_get pairs j ≡ Some p
        earlier j p c e =
            let i = at_contains pairs p c in
            subst (λ (n : ℕ). slice_get pairs n ≡ Some p) (g.few.apart i.0 j p (later i.0 p i.1) e) i.1

        back : (x : Edge) (s : PairStep) → IsNumbered more s x → IsStepOfFirst Step classes k pairs s ⊎ Contains found s → Contains edges x ⊎ IsNumberedAmong more found x
        back x s n (inl w) = inl ((h.edges_are x).1 (
          s,
          w,
          record {
            from = earlier x.from s.from (contains_at pairs w.0.0 s.from w.0.2) n.from;
            to = earlier x.to s.to (h.closed s w) n.to;
            mark = n.mark;
            letters = n.letters;
          },
        ))
        back x s n (inr c) = inr (s, c, n)

        from : (x : Edge) (s : PairStep) → IsAmongFirst (k + 1) more s.from → IsStepOf Step classes s → IsNumbered more s x → Contains edges x ⊎ IsNumberedAmong more found x
        from x s f w n = back x s n (either s f.0 f.2 w (last f.0 f.1))

        stays : (p : Pair) → Contains pairs p → Contains more p
        stays p c = let i = at_contains pairs p c in contains_at more i.0 p (later i.0 p i.1)

        leads : (s : PairStep) → IsStepOfFirst Step classes k pairs s ⊎ Contains found s → Contains more s.to
        leads s (inl w) = stays s.to (h.closed s w)
        leads s (inr c) = g.all s.to (s, c, refl)

        closed : (s : PairStep) → IsAmongFirst (k + 1) more s.from → IsStepOf Step classes s → Contains more s.to
        closed s f w = leads s (either s f.0 f.2 w (last f.0 f.1))

    pub found-refused : (why : AlgebraRefusal) → IsRefused 0 (NoRoom most (IsTargetAmong found) pairs) why → IsRefused 0 (CountIsAbove most size Step) why
    found-refused TooManyVariables r = r
    found-refused TooManyStates r =
        (r.0, too-many most size Step r.1.others r.1.many r.1.apart (λ p c. (let w = either-pair p (r.1.from p c) in (small-pair p w, below-pair p w, either-reached p (r.1.from p c)))))
    found-refused NoMemory r = tt
