-- The steps and ends of an automaton of reached pairs.
use Rattle.std.proofs.Common.{◌≡◌, ℕ, ◌^◌, ◌<◌, ◌≤◌, ◌↔◌, List, Bool, true, false, length, map, Some, Contains, slice_get, slice_index_or, refl, sym, ap, subst, ◌∙◌, arith}
use Rattle.std.proofs.lemmas.Option.{slice_get-map}
use Rattle.std.specs.Option.{option_map}
use Rattle.marker_nfa.specs.declared.nfa.Edge.{Edge}
use Rattle.marker_nfa.specs.declared.nfa.End.{End}
use Rattle.marker_nfa.specs.Automaton.{Automaton, Moves, MayEnd, IsAutomaton, IsMarked}
use Rattle.marker_dfa.specs.Deterministic.{AreAlike, DeterministicAutomaton, IsDeterministic, ends_of, states_of}
use Rattle.marker_dfa.proofs.Lists.{at_contains, contains_at, get_within, length_map}
use Rattle.span_algebra.specs.declared.classes.Class.{Class}
use Rattle.span_algebra.specs.declared.joints.Joint.{Joint}
use Rattle.span_algebra.specs.declared.joints.Meeting.{Meeting}
use Rattle.span_algebra.specs.declared.pairs.Pair.{Pair}
use Rattle.span_algebra.specs.declared.pairs.PairStep.{PairStep}
use Rattle.span_algebra.specs.Renaming.{both_names, mark_for}
use Rattle.span_algebra.specs.Joints.{IsJointAmong, IsMeeting}
use Rattle.span_algebra.specs.Making.{AreClasses}
use Rattle.span_algebra.specs.Pairs.{number_of}
use Rattle.span_algebra.specs.Products.{AreFound, HasNumbered, IsJoinNfa, IsPairEnd, IsStepOfFirst}
use Rattle.span_algebra.specs.TreeAutomaton.{JoinEnd, JoinStep, join_size}
use Rattle.span_algebra.proofs.CopyLaws.{end-within}
use Rattle.span_algebra.proofs.FoundLaws.{get-map, pair-known}
use Rattle.span_algebra.proofs.JoinLaws.{AreApart, same-pair}
use Rattle.span_algebra.proofs.JoinMarks.{join-marked}
use Rattle.span_algebra.proofs.JointLaws.{joint-forth, joint-back}

-- a step by a byte is one by each byte that is like it
step-alike : (a : DeterministicAutomaton) (va : List (List ℕ)) (b : DeterministicAutomaton) (vb : List (List ℕ)) (o m c d p : ℕ) → d < 256 → AreAlike a d c → AreAlike b d c → JoinStep a va b vb o m c p → JoinStep a va b vb o m d p
step-alike a va b vb o m c d p small la lb s = record {
  left = s.left;
  right = s.right;
  next_left = s.next_left;
  next_right = s.next_right;
  from = s.from;
  byte = small;
  mark = s.mark;
  left_step = la s.left (mark_for va (both_names va vb) m) ∙ s.left_step;
  right_step = lb s.right (mark_for vb (both_names va vb) m) ∙ s.right_step;
  leads = s.leads;
}

flip : (a : DeterministicAutomaton) (c d : ℕ) → AreAlike a c d → AreAlike a d c
flip a c d h q m = sym (h q m)

module _ (a : DeterministicAutomaton) (va : List (List ℕ)) (b : DeterministicAutomaton) (vb : List (List ℕ)) (da : IsDeterministic a) (db : IsDeterministic b) (size_a : length va ≡ a.variables) (size_b : length vb ≡ b.variables)
    (apart_a : AreApart va) (apart_b : AreApart vb) (apart : AreApart (both_names va vb)) (few : length (both_names va vb) ≤ 8)
    (t : Meeting) (meets : IsMeeting va vb t) (classes : List Class) (ca : AreClasses a classes) (cb : AreClasses b classes)
    (most : ℕ) (pairs : List Pair) (edges : List Edge) (ends : List End) (states variables : ℕ)
    (found : AreFound most a b (join_size a) (JoinStep a va b vb) classes (length pairs) pairs edges)
    (ends_are : (e : End) → Contains ends e ↔ IsPairEnd a b t pairs e)
    (states_is : states ≡ length pairs) (variables_is : variables ≡ length (both_names va vb)) where
  abbrev names : List (List ℕ)
  names = both_names va vb

  abbrev Step : ℕ → ℕ → ℕ → ℕ → Type 0
  Step = JoinStep a va b vb

  abbrev End_of : ℕ → ℕ → Type 0
  End_of = JoinEnd a va b vb

  abbrev made : Automaton
  made = record { states = states; variables = variables; edges = edges; ends = ends }

  abbrev numbers : List ℕ
  numbers = map number_of pairs

  number-at : (i : ℕ) (p : Pair) → slice_get pairs i ≡ Some p → slice_get numbers i ≡ Some (number_of p)
  number-at i p at = slice_get-map number_of pairs i ∙ ap (option_map number_of) at

  below : (i : ℕ) (p : Pair) → slice_get pairs i ≡ Some p → p.right < 1024
  below i p at = omega (arith, (found.within p (contains_at pairs i p at)).1, db.few_states)

  apart_numbers : (i j o : ℕ) → slice_get numbers i ≡ Some o → slice_get numbers j ≡ Some o → i ≡ j
  apart_numbers i j o x y =
      let p = get-map number_of pairs i o x in
      let q = get-map number_of pairs j o y in
      found.few.apart i j q.0 (p.1 ∙ ap Some (pair-known p.0 q.0 (below i p.0 p.1) (below j q.0 q.1) (p.2 ∙ sym q.2))) q.1

  within : (i o : ℕ) → slice_get numbers i ≡ Some o → o < join_size a
  within i o at =
      let p = get-map number_of pairs i o at in
      omega (arith, (found.within p.0 (contains_at pairs i p.0 p.1)).0, below i p.0 p.1, p.2)

  step_to : (i m c j : ℕ) → Moves made i m c j → (o : ℕ) × (p : ℕ) × (slice_get numbers i ≡ Some o) × (slice_get numbers j ≡ Some p) × Step o m c p
  step_to i m c j mv =
      let w = (found.edges_are mv.edge).0 mv.among in
      let e = w.0 in
      let is = w.2 in
      let h = w.1.1 in
      let letter : slice_index_or h.class.letters c false ≡ true = subst (λ (l : List Bool). slice_index_or l c false ≡ true) (is.letters ∙ h.letters) mv.letter in
      let la = ca.alike h.class c h.among letter in
      let lb = cb.alike h.class c h.among letter in
      let s : Step (number_of e.from) e.mark c (number_of e.to) = step-alike a va b vb (number_of e.from) e.mark h.class.first c (number_of e.to) la.0 la.1 lb.1 h.step in
      let from = subst (λ (k : ℕ). slice_get pairs k ≡ Some e.from) mv.from is.from in
      let to = subst (λ (k : ℕ). slice_get pairs k ≡ Some e.to) mv.to is.to in
      (number_of e.from, number_of e.to, number-at i e.from from, number-at j e.to to, subst (λ (k : ℕ). Step (number_of e.from) k c (number_of e.to)) (sym is.mark ∙ mv.mark) s)

  step_from : (i o m c p : ℕ) → slice_get numbers i ≡ Some o → Step o m c p → (j : ℕ) × (slice_get numbers j ≡ Some p) × Moves made i m c j
  step_from i o m c p at s =
      let k = ca.all c s.byte in
      let la = ca.alike k.0 c k.1 k.2 in
      let lb = cb.alike k.0 c k.1 k.2 in
      let own = ca.alike k.0 k.0.first k.1 (ca.own k.0 k.1) in
      let q = get-map number_of pairs i o at in
      let r : Pair = record { left = s.next_left; right = s.next_right } in
      let lt : s.next_right < states_of b = db.within s.right _ c s.next_right s.right_step in
      let first : Step o m k.0.first p = step-alike a va b vb o m c k.0.first p own.0 (flip a c k.0.first la.1) (flip b c k.0.first lb.1) s in
      let e : PairStep = record { from = q.0; mark = m; letters = k.0.letters; to = r } in
      let step : Step (number_of q.0) m k.0.first (number_of r) = subst (λ (x : ℕ). Step (number_of q.0) m k.0.first x) s.leads (subst (λ (x : ℕ). Step x m k.0.first p) (sym q.2) first) in
      let there : IsStepOfFirst Step classes (length pairs) pairs e = ((i, get_within pairs i q.0 q.1, q.1), record { class = k.0; among = k.1; letters = refl; step = step; below = omega (arith, lt, db.few_states) }) in
      let j = at_contains pairs r (found.closed e there) in
      let x : Edge = record { from = i; mark = m; letters = k.0.letters; to = j.0 } in
      (j.0, number-at j.0 r j.1 ∙ ap Some (sym s.leads), record { edge = x; among = (found.edges_are x).1 (e, there, record { from = q.1; to = j.1; mark = refl; letters = refl }); from = refl; mark = refl; letter = k.2; to = refl })

  left-end : (q m : ℕ) → Contains (ends_of a q) m → m < 4 ^ length va
  left-end q m h = subst (λ (k : ℕ). m < 4 ^ k) (sym size_a) (da.ends_small q m h)

  right-end : (q m : ℕ) → Contains (ends_of b q) m → m < 4 ^ length vb
  right-end q m h = subst (λ (k : ℕ). m < 4 ^ k) (sym size_b) (db.ends_small q m h)

  end-at : (e : End) → IsPairEnd a b t pairs e → (o : ℕ) × (slice_get numbers e.state ≡ Some o) × End_of o e.mark
  end-at e h =
      let p = h.pair in
      let j = h.end.0 in
      let g = h.end.1 in
      let mark : e.mark ≡ j.mark = ap (λ (x : End). x.mark) h.end.2 in
      let k = joint-back va vb apart_a apart_b t meets j.left j.right j.mark (left-end p.left j.left g.in_left) (right-end p.right j.right g.in_right) g.joint in
      let made_end : End_of (number_of p) j.mark = record {
        left = p.left;
        right = p.right;
        from = refl;
        mark = k.0;
        left_end = subst (λ (x : ℕ). Contains (ends_of a p.left) x) (sym k.1) g.in_left;
        right_end = subst (λ (x : ℕ). Contains (ends_of b p.right) x) (sym k.2) g.in_right;
      } in
      (number_of p, number-at e.state p h.there, subst (λ (x : ℕ). End_of (number_of p) x) (sym mark) made_end)

  end_to : (i m : ℕ) → MayEnd made i m → (o : ℕ) × (slice_get numbers i ≡ Some o) × End_of o m
  end_to i m c = end-at (record { state = i; mark = m }) ((ends_are (record { state = i; mark = m })).0 c)

  end_from : (i o m : ℕ) → slice_get numbers i ≡ Some o → End_of o m → MayEnd made i m
  end_from i o m at h =
      let p = get-map number_of pairs i o at in
      let lt : h.right < 1024 = omega (arith, end-within b h.right (mark_for vb names m) h.right_end, db.few_states) in
      let same = same-pair h.left h.right p.0.left p.0.right lt (below i p.0 p.1) (sym h.from ∙ sym p.2) in
      let j : Joint = record { mark = m; left = mark_for va names m; right = mark_for vb names m } in
      let g : IsJointAmong t (ends_of a p.0.left) (ends_of b p.0.right) j = record {
        in_left = subst (λ (q : ℕ). Contains (ends_of a q) (mark_for va names m)) same.0 h.left_end;
        in_right = subst (λ (q : ℕ). Contains (ends_of b q) (mark_for vb names m)) same.1 h.right_end;
        joint = joint-forth va vb apart_a apart_b t meets m apart h.mark;
      } in
      (ends_are (record { state = i; mark = m })).1 (record { pair = p.0; there = p.1; end = (j, g, refl) })

  pub join-parts : HasNumbered (join_size a) (JoinStep a va b vb) (JoinEnd a va b vb) (map number_of pairs) (record { states = states; variables = variables; edges = edges; ends = ends })
  join-parts = record {
    states = states_is ∙ sym (length_map number_of pairs);
    apart = apart_numbers;
    start = number-at 0 (record { left = 0; right = 0 }) found.start;
    within = within;
    step_to = step_to;
    step_from = step_from;
    end_to = end_to;
    end_from = end_from;
  }

  pub join-nfa : IsJoinNfa a va b vb (record { states = states; variables = variables; edges = edges; ends = ends })
  join-nfa = record { variables = variables_is; pairs = pairs; parts = join-parts }

  edge-mark : (x : Edge) → Contains edges x → x.mark < 4 ^ length names
  edge-mark x c = let w = (found.edges_are x).0 c in omega (arith, w.2.mark, w.1.1.step.mark)

  pub join-automaton : IsAutomaton (record { states = states; variables = variables; edges = edges; ends = ends })
  join-automaton = record {
    has_start = omega (arith, get_within pairs 0 (record { left = 0; right = 0 }) found.start, states_is);
    few_variables = omega (arith, variables_is, few);
    edges_within = λ x c. (let w = (found.edges_are x).0 c in (omega (arith, get_within pairs x.from w.0.from w.2.from, states_is), omega (arith, get_within pairs x.to w.0.to w.2.to, states_is)));
    ends_within = λ e c. (let h = (ends_are e).0 c in omega (arith, get_within pairs e.state h.pair h.there, states_is));
    wellmarked = record {
      edge_marks = λ x c. subst (λ (k : ℕ). x.mark < 4 ^ k) (sym variables_is) (edge-mark x c);
      end_marks = λ e c. subst (λ (k : ℕ). e.mark < 4 ^ k) (sym variables_is) ((end-at e ((ends_are e).0 c)).2.mark);
      accepted = λ w short h. subst (λ (k : ℕ). IsMarked k w) (sym variables_is) (join-marked a va b vb da db size_a size_b apart few numbers made join-parts w short h);
    };
  }
