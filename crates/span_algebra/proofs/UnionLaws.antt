-- The automaton of a union.
use Rattle.std.proofs.Common.{◌≡◌, ℕ, suc, ◌+◌, ◌<◌, ◌≤◌, ◌⊎◌, inl, inr, List, [], ◌∷◌, length, true, sym, ap, subst, ◌∙◌, arith}
use Rattle.span_types.specs.Words.{Marked}
use Rattle.span_types.specs.Rel.{Assignment, named, has_name}
use Rattle.formula_law.specs.Accepts.{MarkedText, Reaches, marked_text}
use Rattle.formula_law.specs.Law.{bytes_of}
use Rattle.marker_nfa.specs.Automaton.{Automaton, Moves, AcceptsText, IsMarked}
use Rattle.marker_nfa.proofs.Accepting.{reaches_by}
use Rattle.marker_dfa.specs.Deterministic.{DeterministicAutomaton, IsDeterministic, AcceptsSame, states_of}
use Rattle.span_algebra.specs.Renaming.{both_names, tuple_for}
use Rattle.span_algebra.specs.TreeAutomaton.{IsAt, CopiedStep, CopiedEnd, union_size, UnionStep, UnionEnd}
use Rattle.span_algebra.specs.Answers.{AreBytes, IsText, AnswersBy, GivesUnion}
use Rattle.span_algebra.proofs.NameLaws.{length-for, named-wider, left-names, right-names}
use Rattle.span_algebra.proofs.TextLaws.{bytes-word, lies-for}
use Rattle.span_algebra.specs.Making.{HasParts}
use Rattle.span_algebra.proofs.AcceptLaws.{made, renamed-marked}
use Rattle.span_algebra.proofs.CopyLaws.{step-within, end-within, start-state, Origin, Renamed, renamed, finish, extend, back, answer-of, answer-from}

module _ (a : DeterministicAutomaton) (va : List (List ℕ)) (b : DeterministicAutomaton) (vb : List (List ℕ)) (da : IsDeterministic a) (db : IsDeterministic b) (size_a : length va ≡ a.variables) (size_b : length vb ≡ b.variables) where
  abbrev Step : ℕ → ℕ → ℕ → ℕ → Type 0
  Step = UnionStep a va b vb

  abbrev End : ℕ → ℕ → Type 0
  End = UnionEnd a va b vb

  abbrev names : List (List ℕ)
  names = both_names va vb

  -- the right's states lie past the left's
  step-left : (o state m c p : ℕ) → o ≡ 1 + state → state < states_of a → Step o m c p → CopiedStep names va 1 a o m c p
  step-left o state m c p e lt (inl s) = s
  step-left o state m c p e lt (inr s) = absurd (no s.at)
    where
      no : IsAt (suc (states_of a)) o s.state → ⊥
      no (inl g) = omega (arith, e, lt, g)
      no (inr g) = omega (arith, e, g.0)

  end-left : (o state m : ℕ) → o ≡ 1 + state → state < states_of a → End o m → CopiedEnd names va 1 a o m
  end-left o state m e lt (inl s) = s
  end-left o state m e lt (inr s) = absurd (no s.at)
    where
      no : IsAt (suc (states_of a)) o s.state → ⊥
      no (inl g) = omega (arith, e, lt, g)
      no (inr g) = omega (arith, e, g.0)

  step-right : (o state m c p : ℕ) → o ≡ suc (states_of a) + state → state < states_of b → Step o m c p → CopiedStep names vb (suc (states_of a)) b o m c p
  step-right o state m c p e lt (inr s) = s
  step-right o state m c p e lt (inl s) = absurd (no s.at)
    where
      no : IsAt 1 o s.state → ⊥
      no (inl g) = omega (arith, e, g, step-within a s.state s.own_mark c s.next s.step)
      no (inr g) = omega (arith, e, g.0)

  end-right : (o state m : ℕ) → o ≡ suc (states_of a) + state → state < states_of b → End o m → CopiedEnd names vb (suc (states_of a)) b o m
  end-right o state m e lt (inr s) = s
  end-right o state m e lt (inl s) = absurd (no s.at)
    where
      no : IsAt 1 o s.state → ⊥
      no (inl g) = omega (arith, e, g, end-within a s.state s.own_mark s.may_end)
      no (inr g) = omega (arith, e, g.0)

  abbrev Either : MarkedText → Type 0
  Either w = Renamed names va 1 a w ⊎ Renamed names vb (suc (states_of a)) b w

  begun : (w : Marked) (last q : ℕ) → Reaches Step 0 w q → End q last → Origin names va 1 a w last 0 ⊎ Origin names vb (suc (states_of a)) b w last 0
  begun [] last q r h = ended (subst (λ (x : ℕ). End x last) (sym r) h)
    where
      ended : End 0 last → Origin names va 1 a [] last 0 ⊎ Origin names vb (suc (states_of a)) b [] last 0
      ended (inl s) = inl (finish names va 1 a 0 last 0 s (start-state 1 s.state s.at))
      ended (inr s) = inr (finish names vb (suc (states_of a)) b 0 last 0 s (start-state (suc (states_of a)) s.state s.at))
  begun (c ∷ w) last q r h = by r.1
    where
      by : Step 0 c.0 c.1 r.0 → Origin names va 1 a (c ∷ w) last 0 ⊎ Origin names vb (suc (states_of a)) b (c ∷ w) last 0
      by (inl s) = inl (extend names va 1 a 0 0 r.0 last c w s (start-state 1 s.state s.at) (back names va 1 a Step End w r.0 s.next q last step-left end-left da.within s.leads (da.within s.state s.own_mark c.1 s.next s.step) r.2 h))
      by (inr s) = inr (extend names vb (suc (states_of a)) b 0 0 r.0 last c w s (start-state (suc (states_of a)) s.state s.at) (back names vb (suc (states_of a)) b Step End w r.0 s.next q last step-right end-right db.within s.leads (db.within s.state s.own_mark c.1 s.next s.step) r.2 h))

  module _ (n : Automaton) (is : HasParts (union_size a b) Step End n) where
    accepted-to : (w : MarkedText) → AcceptsText n w → Either w
    accepted-to w h = by (begun w.pairs w.last h.state (reaches_by (Moves n) Step is.step_to 0 w.pairs h.state h.reaches) (is.end_to h.state w.last h.ends))
      where
        by : Origin names va 1 a w.pairs w.last 0 ⊎ Origin names vb (suc (states_of a)) b w.pairs w.last 0 → Either w
        by (inl o) = inl (renamed names va 1 a w o)
        by (inr o) = inr (renamed names vb (suc (states_of a)) b w o)

    accepted-from : (w : MarkedText) → AreBytes (bytes_of w.pairs) → Either w → AcceptsText n w
    accepted-from w bytes (inl h) = made (union_size a b) Step End n is names va 1 a (λ o m c p s. inl s) (λ o m s. inl s) w bytes h
    accepted-from w bytes (inr h) = made (union_size a b) Step End n is names vb (suc (states_of a)) b (λ o m c p s. inr s) (λ o m s. inr s) w bytes h

    pub is-marked : (w : MarkedText) → length names ≤ 8 → length w.pairs ≤ 281474976710656 → AcceptsText n w → IsMarked (length names) w
    is-marked w few short h = by (accepted-to w h)
      where
        by : Either w → IsMarked (length names) w
        by (inl r) = renamed-marked names va 1 a w few short da size_a r
        by (inr r) = renamed-marked names vb (suc (states_of a)) b w few short db size_b r

    pub gives-union : (d : DeterministicAutomaton) → length names ≤ 8 → d.variables ≡ length names → AcceptsSame n d → GivesUnion a va b vb names d
    gives-union d few variables same = record { variables = variables; answers = λ s r text. (to s r text, from s r text) }
      where
        to : (s : List ℕ) (r : Assignment) → IsText s → AnswersBy d names s r → AnswersBy a va s r ⊎ AnswersBy b vb s r
        to s r text h = by (accepted-to (marked_text s h.tuple) ((same.texts (marked_text s h.tuple)).0 h.fits.accepted))
          where
            one : (v : List (List ℕ)) (base : ℕ) (x : DeterministicAutomaton) → IsDeterministic x → length v ≡ x.variables → ((n : List ℕ) → has_name v n ≡ true → has_name names n ≡ true) → Renamed names v base x (marked_text s h.tuple) → AnswersBy x v s r
            one v base x det size wide k =
                let g = answer-of names v base x s h.tuple det size few text.short h.size h.fits.lies k in
                record { tuple = g.tuple; size = g.size; fits = g.answer; read = λ n. h.read n ∙ ap (λ t. named names t n) g.same ∙ named-wider names v g.tuple wide n }

            by : Either (marked_text s h.tuple) → AnswersBy a va s r ⊎ AnswersBy b vb s r
            by (inl k) = inl (one va 1 a da size_a (left-names va vb) k)
            by (inr k) = inr (one vb (suc (states_of a)) b db size_b (right-names va vb) k)

        one-from : (v : List (List ℕ)) (base : ℕ) (x : DeterministicAutomaton) (s : List ℕ) (r : Assignment) → IsText s → ((n : List ℕ) → has_name v n ≡ true → has_name names n ≡ true) → ((w : MarkedText) → Renamed names v base x w → Either w) → AnswersBy x v s r → AnswersBy d names s r
        one-from v base x s r text wide side h =
            let t = tuple_for names v h.tuple in
            let w = marked_text s t in
            let bytes : AreBytes (bytes_of w.pairs) = subst (λ (l : List ℕ). AreBytes l) (sym (bytes-word _ 1 s)) text.bytes in
            record {
              tuple = t;
              size = length-for names v h.tuple;
              fits = record {
                size = length-for names v h.tuple ∙ sym variables;
                lies = lies-for (length s) names v h.tuple h.fits.lies;
                accepted = (same.texts w).1 (accepted-from w bytes (side w (answer-from names v base x s h.tuple h.size h.fits)));
              };
              read = λ n. h.read n ∙ sym (named-wider names v h.tuple wide n);
            }

        from : (s : List ℕ) (r : Assignment) → IsText s → AnswersBy a va s r ⊎ AnswersBy b vb s r → AnswersBy d names s r
        from s r text (inl h) = one-from va 1 a s r text (left-names va vb) (λ w k. inl k) h
        from s r text (inr h) = one-from vb (suc (states_of a)) b s r text (right-names va vb) (λ w k. inr k) h
