-- The steps and ends of an automaton that is made of copies.
use Rattle.std.proofs.Common.{◌≡◌, ℕ, suc, ◌+◌, ◌^◌, ◌<◌, ◌≤◌, ◌↔◌, ◌⊎◌, inl, inr, List, [], Bool, false, true, length, Option, Contains, slice_index_or, refl, sym, ap, subst, ◌∙◌, arith}
use Rattle.marker_nfa.specs.Automaton.{Automaton, Moves, MayEnd, IsAutomaton, IsMarked}
use Rattle.marker_nfa.specs.declared.nfa.Edge.{Edge}
use Rattle.marker_nfa.specs.declared.nfa.End.{End}
use Rattle.marker_nfa.specs.Parts.{Adds}
use Rattle.marker_dfa.specs.Deterministic.{DeterministicAutomaton, IsDeterministic, states_of}
use Rattle.span_algebra.specs.declared.classes.Class.{Class}
use Rattle.span_algebra.specs.Renaming.{both_names}
use Rattle.span_algebra.specs.TreeAutomaton.{IsAt, CopiedStep, CopiedEnd, union_size, UnionStep, UnionEnd}
use Rattle.span_algebra.specs.Making.{AreClasses, AreIndicesOf, mark_by, IsCopiedEdge, IsCopiedEnd, HasParts, IsUnionNfa}
use Rattle.span_algebra.proofs.MarkLaws.{mark-small}
use Rattle.span_algebra.proofs.CopyLaws.{step-within, end-within}
use Rattle.span_algebra.proofs.UnionLaws.{is-marked}

module _ (to from : List (List ℕ)) (base : ℕ) (a : DeterministicAutomaton) (places : List (Option ℕ)) (classes : List Class) (is_places : AreIndicesOf to from places) (is_classes : AreClasses a classes) where
  pub step-of : (o m c p : ℕ) (e : Edge) → IsCopiedEdge a places base classes e → e.from ≡ o → e.mark ≡ m → slice_index_or e.letters c false ≡ true → e.to ≡ p → CopiedStep to from base a o m c p
  step-of o m c p e h from_is mark_is letter to_is =
      let w = h.edge in
      let class = w.0 in
      let own = w.2.0 in
      let next = w.2.1.0 in
      let is = w.2.1.2 in
      let there : slice_index_or class.letters c false ≡ true = subst (λ (l : List Bool). slice_index_or l c false ≡ true) (ap (λ (x : Edge). x.letters) is) letter in
      let alike = is_classes.alike class c w.1 there in
      record {
        state = h.state;
        next = next;
        own_mark = own;
        at = subst (λ (x : ℕ). IsAt base x h.state) (sym (ap (λ (x : Edge). x.from) is) ∙ from_is) h.at;
        byte = alike.0;
        step = alike.1 h.state own ∙ w.2.1.1;
        mark = sym mark_is ∙ ap (λ (x : Edge). x.mark) is ∙ is_places.marks own;
        leads = sym to_is ∙ ap (λ (x : Edge). x.to) is;
      }

  pub edge-of : (o m c p : ℕ) → CopiedStep to from base a o m c p → (e : Edge) × IsCopiedEdge a places base classes e × (e.from ≡ o) × (e.mark ≡ m) × (slice_index_or e.letters c false ≡ true) × (e.to ≡ p)
  edge-of o m c p s =
      let k = is_classes.all c s.byte in
      let alike = is_classes.alike k.0 c k.1 k.2 in
      let e : Edge = record { from = o; mark = mark_by places s.own_mark; letters = k.0.letters; to = base + s.next } in
      (e, record { from = o; state = s.state; at = s.at; edge = (k.0, k.1, (s.own_mark, (s.next, sym (alike.1 s.state s.own_mark) ∙ s.step, refl))) }, refl, is_places.marks s.own_mark ∙ sym s.mark, k.2, sym s.leads)

  pub end-of : (o m : ℕ) → IsCopiedEnd a places base (record { state = o; mark = m }) → CopiedEnd to from base a o m
  end-of o m h =
      let w = h.end in
      record {
        state = h.state;
        own_mark = w.0;
        at = subst (λ (x : ℕ). IsAt base x h.state) (sym (ap (λ (x : End). x.state) w.2)) h.at;
        may_end = w.1;
        mark = ap (λ (x : End). x.mark) w.2 ∙ is_places.marks w.0;
      }

  pub of-end : (o m : ℕ) → CopiedEnd to from base a o m → IsCopiedEnd a places base (record { state = o; mark = m })
  of-end o m s =
      let e : m ≡ mark_by places s.own_mark = s.mark ∙ sym (is_places.marks s.own_mark) in
      record { from = o; state = s.state; at = s.at; end = (s.own_mark, s.may_end, λ i. record { state = o; mark = e i }) }

  pub mark-within : (e : Edge) → IsCopiedEdge a places base classes e → e.mark < 4 ^ length to
  mark-within e h = let w = h.edge in omega (arith, ap (λ (x : Edge). x.mark) w.2.1.2, is_places.marks w.2.0, mark-small to from w.2.0)

  pub end-mark-within : (e : End) → IsCopiedEnd a places base e → e.mark < 4 ^ length to
  end-mark-within e h = let w = h.end in omega (arith, ap (λ (x : End). x.mark) w.2, is_places.marks w.0, mark-small to from w.0)

  at-below : (o q n k : ℕ) → IsAt base o q → q < n → base + n ≤ k → o < k
  at-below o q n k (inl s) lt le = omega (arith, s, lt, le)
  at-below o q n k (inr s) lt le = omega (arith, s.0, lt, le)

  pub states-within : (k : ℕ) (e : Edge) → IsDeterministic a → base + states_of a ≤ k → IsCopiedEdge a places base classes e → (e.from < k) × (e.to < k)
  states-within k e det le h =
      let w = h.edge in
      let lt : h.state < states_of a = step-within a h.state w.2.0 w.0.first w.2.1.0 w.2.1.1 in
      let nt : w.2.1.0 < states_of a = det.within h.state w.2.0 w.0.first w.2.1.0 w.2.1.1 in
      (omega (arith, ap (λ (x : Edge). x.from) w.2.1.2, at-below h.from h.state (states_of a) k h.at lt le), omega (arith, ap (λ (x : Edge). x.to) w.2.1.2, nt, le))

  pub end-state-within : (k : ℕ) (e : End) → base + states_of a ≤ k → IsCopiedEnd a places base e → e.state < k
  end-state-within k e le h =
      let w = h.end in
      let lt : h.state < states_of a = end-within a h.state w.0 w.1 in
      omega (arith, ap (λ (x : End). x.state) w.2, at-below h.from h.state (states_of a) k h.at lt le)

-- two lists of additions to an empty list
pub two-parts : {X : Type 0} (old mid new : List X) (P Q : X → Type 0) → old ≡ [] → Adds old mid P → Adds mid new Q → (x : X) → Contains new x ↔ P x ⊎ Q x
two-parts {X} old mid new P Q e h g x = ((λ c. to ((g x).0 c)), from)
  where
    none : Contains old x → ⊥
    none c = omega (arith, c.1, ap length e)

    of_mid : Contains old x ⊎ P x → P x ⊎ Q x
    of_mid (inl c) = absurd (none c)
    of_mid (inr p) = inl p

    to : Contains mid x ⊎ Q x → P x ⊎ Q x
    to (inl c) = of_mid ((h x).0 c)
    to (inr q) = inr q

    from : P x ⊎ Q x → Contains new x
    from (inl p) = (g x).1 (inl ((h x).1 (inr p)))
    from (inr q) = (g x).1 (inr q)

module _ (a : DeterministicAutomaton) (va : List (List ℕ)) (b : DeterministicAutomaton) (vb : List (List ℕ)) (left right : List (Option ℕ)) (classes : List Class)
    (pl : AreIndicesOf (both_names va vb) va left) (pr : AreIndicesOf (both_names va vb) vb right) (ca : AreClasses a classes) (cb : AreClasses b classes)
    (n : Automaton) (states : n.states ≡ union_size a b)
    (edges : (e : Edge) → Contains n.edges e ↔ IsCopiedEdge a left 1 classes e ⊎ IsCopiedEdge b right (suc (states_of a)) classes e)
    (ends : (e : End) → Contains n.ends e ↔ IsCopiedEnd a left 1 e ⊎ IsCopiedEnd b right (suc (states_of a)) e) where
  abbrev names : List (List ℕ)
  names = both_names va vb

  step_to : (o m c p : ℕ) → Moves n o m c p → UnionStep a va b vb o m c p
  step_to o m c p s = by ((edges s.edge).0 s.among)
    where
      by : IsCopiedEdge a left 1 classes s.edge ⊎ IsCopiedEdge b right (suc (states_of a)) classes s.edge → UnionStep a va b vb o m c p
      by (inl h) = inl (step-of names va 1 a left classes pl ca o m c p s.edge h s.from s.mark s.letter s.to)
      by (inr h) = inr (step-of names vb (suc (states_of a)) b right classes pr cb o m c p s.edge h s.from s.mark s.letter s.to)

  step_from : (o m c p : ℕ) → UnionStep a va b vb o m c p → Moves n o m c p
  step_from o m c p (inl s) = let k = edge-of names va 1 a left classes pl ca o m c p s in record { edge = k.0; among = (edges k.0).1 (inl k.1); from = k.2; mark = k.3; letter = k.4; to = k.5 }
  step_from o m c p (inr s) = let k = edge-of names vb (suc (states_of a)) b right classes pr cb o m c p s in record { edge = k.0; among = (edges k.0).1 (inr k.1); from = k.2; mark = k.3; letter = k.4; to = k.5 }

  end_to : (o m : ℕ) → MayEnd n o m → UnionEnd a va b vb o m
  end_to o m s = by ((ends (record { state = o; mark = m })).0 s)
    where
      by : IsCopiedEnd a left 1 (record { state = o; mark = m }) ⊎ IsCopiedEnd b right (suc (states_of a)) (record { state = o; mark = m }) → UnionEnd a va b vb o m
      by (inl h) = inl (end-of names va 1 a left classes pl ca o m h)
      by (inr h) = inr (end-of names vb (suc (states_of a)) b right classes pr cb o m h)

  end_from : (o m : ℕ) → UnionEnd a va b vb o m → MayEnd n o m
  end_from o m (inl s) = (ends (record { state = o; mark = m })).1 (inl (of-end names va 1 a left classes pl ca o m s))
  end_from o m (inr s) = (ends (record { state = o; mark = m })).1 (inr (of-end names vb (suc (states_of a)) b right classes pr cb o m s))

  pub union-parts : HasParts (union_size a b) (UnionStep a va b vb) (UnionEnd a va b vb) n
  union-parts = record { states = states; step_to = step_to; step_from = step_from; end_to = end_to; end_from = end_from }

  pub union-automaton : IsDeterministic a → IsDeterministic b → length va ≡ a.variables → length vb ≡ b.variables → n.variables ≡ length names → length names ≤ 8 → IsAutomaton n
  union-automaton da db size_a size_b count few = record {
    has_start = omega (arith, states);
    few_variables = omega (arith, count, few);
    edges_within = λ e c. edge_in e ((edges e).0 c);
    ends_within = λ e c. end_in e ((ends e).0 c);
    wellmarked = record {
      edge_marks = λ e c. subst (λ (k : ℕ). e.mark < 4 ^ k) (sym count) (edge_mark e ((edges e).0 c));
      end_marks = λ e c. subst (λ (k : ℕ). e.mark < 4 ^ k) (sym count) (end_mark e ((ends e).0 c));
      accepted = λ w short h. subst (λ (k : ℕ). IsMarked k w) (sym count) (is-marked a va b vb da db size_a size_b n union-parts w few short h);
    };
  }
    where
      edge_in : (e : Edge) → IsCopiedEdge a left 1 classes e ⊎ IsCopiedEdge b right (suc (states_of a)) classes e → (e.from < n.states) × (e.to < n.states)
      edge_in e (inl h) = states-within names va 1 a left classes pl ca n.states e da (omega (arith, states)) h
      edge_in e (inr h) = states-within names vb (suc (states_of a)) b right classes pr cb n.states e db (omega (arith, states)) h

      end_in : (e : End) → IsCopiedEnd a left 1 e ⊎ IsCopiedEnd b right (suc (states_of a)) e → e.state < n.states
      end_in e (inl h) = end-state-within names va 1 a left classes pl ca n.states e (omega (arith, states)) h
      end_in e (inr h) = end-state-within names vb (suc (states_of a)) b right classes pr cb n.states e (omega (arith, states)) h

      edge_mark : (e : Edge) → IsCopiedEdge a left 1 classes e ⊎ IsCopiedEdge b right (suc (states_of a)) classes e → e.mark < 4 ^ length names
      edge_mark e (inl h) = mark-within names va 1 a left classes pl ca e h
      edge_mark e (inr h) = mark-within names vb (suc (states_of a)) b right classes pr cb e h

      end_mark : (e : End) → IsCopiedEnd a left 1 e ⊎ IsCopiedEnd b right (suc (states_of a)) e → e.mark < 4 ^ length names
      end_mark e (inl h) = end-mark-within names va 1 a left classes pl ca e h
      end_mark e (inr h) = end-mark-within names vb (suc (states_of a)) b right classes pr cb e h

pub union-made : (a : DeterministicAutomaton) (va : List (List ℕ)) (b : DeterministicAutomaton) (vb names : List (List ℕ)) (left right : List (Option ℕ)) (classes : List Class) (base states variables : ℕ) (e0 e1 e2 : List Edge) (f0 f1 f2 : List End)
    → names ≡ both_names va vb → AreIndicesOf names va left → AreIndicesOf names vb right → AreClasses a classes → AreClasses b classes
    → IsDeterministic a → IsDeterministic b → length va ≡ a.variables → length vb ≡ b.variables → base ≡ suc (states_of a) → states ≡ base + states_of b → variables ≡ length names → length names ≤ 8
    → e0 ≡ [] → Adds e0 e1 (IsCopiedEdge a left 1 classes) → Adds e1 e2 (IsCopiedEdge b right base classes)
    → f0 ≡ [] → Adds f0 f1 (IsCopiedEnd a left 1) → Adds f1 f2 (IsCopiedEnd b right base)
    → IsAutomaton (record { states = states; variables = variables; edges = e2; ends = f2 }) × IsUnionNfa a va b vb (record { states = states; variables = variables; edges = e2; ends = f2 })
union-made a va b vb ns left right classes base states variables e0 e1 e2 f0 f1 f2 ns_is pl pr ca cb da db size_a size_b base_is states_is variables_is few ez el er fz fl fr =
    (union-automaton a va b vb left right classes pl_is pr_is ca cb (record { states = states; variables = variables; edges = e2; ends = f2 }) count edges ends da db size_a size_b size few_is, record { variables = size; parts = union-parts a va b vb left right classes pl_is pr_is ca cb (record { states = states; variables = variables; edges = e2; ends = f2 }) count edges ends })
  where
    pl_is : AreIndicesOf (both_names va vb) va left
    pl_is = subst (λ (l : List (List ℕ)). AreIndicesOf l va left) ns_is pl

    pr_is : AreIndicesOf (both_names va vb) vb right
    pr_is = subst (λ (l : List (List ℕ)). AreIndicesOf l vb right) ns_is pr

    size : variables ≡ length (both_names va vb)
    size = variables_is ∙ ap length ns_is

    few_is : length (both_names va vb) ≤ 8
    few_is = omega (arith, few, ap length ns_is)

    count : states ≡ union_size a b
    count = omega (arith, states_is, base_is)

    edges : (e : Edge) → Contains e2 e ↔ IsCopiedEdge a left 1 classes e ⊎ IsCopiedEdge b right (suc (states_of a)) classes e
    edges = two-parts e0 e1 e2 (IsCopiedEdge a left 1 classes) (IsCopiedEdge b right (suc (states_of a)) classes) ez el (subst (λ (k : ℕ). Adds e1 e2 (IsCopiedEdge b right k classes)) base_is er)

    ends : (e : End) → Contains f2 e ↔ IsCopiedEnd a left 1 e ⊎ IsCopiedEnd b right (suc (states_of a)) e
    ends = two-parts f0 f1 f2 (IsCopiedEnd a left 1) (IsCopiedEnd b right (suc (states_of a))) fz fl (subst (λ (k : ℕ). Adds f1 f2 (IsCopiedEnd b right k)) base_is fr)
