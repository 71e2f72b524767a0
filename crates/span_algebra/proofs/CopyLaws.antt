-- What an automaton of copied operands accepts.
use Rattle.std.proofs.Common.{◌≡◌, ℕ, suc, ◌+◌, ◌<◌, ◌≤◌, inl, inr, List, [], ◌∷◌, length, Option, Some, None, Contains, slice_get, refl, sym, ap, subst, ◌∙◌, arith}
use Rattle.std.proofs.lemmas.Option.{slice_get_within}
use Rattle.span_types.specs.declared.tuple.Span.{Span}
use Rattle.span_types.specs.Marks.{Lies}
use Rattle.span_types.specs.Words.{Marked}
use Rattle.formula_law.specs.Accepts.{MarkedText, Reaches, marked_text}
use Rattle.formula_law.specs.Law.{bytes_of}
use Rattle.marker_dfa.specs.declared.dfa.Row.{Row}
use Rattle.marker_dfa.specs.Deterministic.{DeterministicAutomaton, IsDeterministic, PathAccepts, and_then, path, next_of, ends_of, ends_in, find_target, states_of}
use Rattle.span_algebra.specs.Renaming.{mark_for, tuple_for}
use Rattle.span_algebra.specs.TreeAutomaton.{IsAt, CopiedStep, CopiedEnd}
use Rattle.span_algebra.specs.Answers.{AreBytes, IsAnswerOf}
use Rattle.span_algebra.proofs.NameLaws.{length-for}
use Rattle.span_algebra.proofs.TextLaws.{remarked, remarked_text, bytes-remarked, bytes-word, renamed-text, text-tells, lies-for}

-- a state with a step or an end is one of the automaton's
pub step-within : (a : DeterministicAutomaton) (q m b r : ℕ) → next_of a q m b ≡ Some r → q < states_of a
step-within a q m b r h = by (slice_get a.rows q) refl h
  where
    by : (o : Option Row) → slice_get a.rows q ≡ o → and_then (and_then o (λ w. and_then (slice_get a.classes b) (λ c. slice_get w.cells.items c))) (λ c. find_target c.marks.items c.targets.items m) ≡ Some r → q < states_of a
    by None e g = let bad : None ≡ Some r = g in absurd (cc)
    by (Some w) e g = slice_get_within a.rows q w e

pub end-within : (a : DeterministicAutomaton) (q m : ℕ) → Contains (ends_of a q) m → q < states_of a
end-within a q m h = by (slice_get a.rows q) refl h
  where
    by : (o : Option Row) → slice_get a.rows q ≡ o → Contains (ends_in o) m → q < states_of a
    by None e g = absurd (omega (arith, g.1))
    by (Some w) e g = slice_get_within a.rows q w e

pub same-state : (base o state other : ℕ) → o ≡ base + state → IsAt base o other → other ≡ state
same-state base o state other e (inl h) = omega (arith, e, h)
same-state base o state other e (inr h) = omega (arith, e, h.0, h.1)

pub start-state : (base state : ℕ) → IsAt base 0 state → state ≡ 0
start-state base state (inl h) = omega (arith, h)
start-state base state (inr h) = h.1

module _ (to from : List (List ℕ)) (base : ℕ) (a : DeterministicAutomaton) where
  -- a marked text, as one of the operand's from a state
  pub record Origin (w : Marked) (last state : ℕ) : Type 0 where
    pub pairs : Marked
    pub own_last : ℕ
    pub end : ℕ
    pub leads : path (next_of a) pairs state ≡ Some end
    pub may_end : Contains (ends_of a end) own_last
    pub same : w ≡ remarked (mark_for to from) pairs
    pub same_last : last ≡ mark_for to from own_last

  -- a marked text, as one that the operand accepts
  pub record Renamed (w : MarkedText) : Type 0 where
    pub text : MarkedText
    pub accepted : PathAccepts a text
    pub same : w ≡ remarked_text (mark_for to from) text

  pub renamed : (w : MarkedText) → Origin w.pairs w.last 0 → Renamed w
  renamed w h = record {
    text = record { pairs = h.pairs; last = h.own_last };
    accepted = record { state = h.end; leads = h.leads; may_end = h.may_end };
    same = λ i. record { pairs = h.same i; last = h.same_last i };
  }

  pub finish : (o last state : ℕ) (s : CopiedEnd to from base a o last) → s.state ≡ state → Origin [] last state
  finish o last state s e = record {
    pairs = [];
    own_last = s.own_mark;
    end = state;
    leads = refl;
    may_end = subst (λ (q : ℕ). Contains (ends_of a q) s.own_mark) e s.may_end;
    same = refl;
    same_last = s.mark;
  }

  pub extend : (o state p last : ℕ) (c : ℕ × ℕ) (w : Marked) (s : CopiedStep to from base a o c.0 c.1 p) → s.state ≡ state → Origin w last s.next → Origin (c ∷ w) last state
  extend o state p last c w s e h =
      let step : next_of a state s.own_mark c.1 ≡ Some s.next = subst (λ (q : ℕ). next_of a q s.own_mark c.1 ≡ Some s.next) e s.step in
      record {
        pairs = (s.own_mark, c.1) ∷ h.pairs;
        own_last = h.own_last;
        end = h.end;
        leads = ap (λ o. and_then o (path (next_of a) h.pairs)) step ∙ h.leads;
        may_end = h.may_end;
        same = λ i. (s.mark i, c.1) ∷ h.same i;
        same_last = h.same_last;
      }

  module _ (Step : ℕ → ℕ → ℕ → ℕ → Type 0) (End : ℕ → ℕ → Type 0) where
    pub forth : (w : Marked) (o state r : ℕ) → ((o m b p : ℕ) → CopiedStep to from base a o m b p → Step o m b p) → AreBytes (bytes_of w) → IsAt base o state → path (next_of a) w state ≡ Some r → (q : ℕ) × IsAt base q r × Reaches Step o (remarked (mark_for to from) w) q
    forth [] o state r steps bytes at e = let same : state ≡ r = cc in (o, subst (λ (x : ℕ). IsAt base o x) same at, refl)
    forth (c ∷ w) o state r steps bytes at e = by (next_of a state c.0 c.1) refl e (λ next g. forth w (base + next) next r steps bytes.1 (inl refl) g)
      where
        by : (v : Option ℕ) → next_of a state c.0 c.1 ≡ v → and_then v (path (next_of a) w) ≡ Some r
            → ((next : ℕ) → path (next_of a) w next ≡ Some r → (q : ℕ) × IsAt base q r × Reaches Step (base + next) (remarked (mark_for to from) w) q)
            → (q : ℕ) × IsAt base q r × Reaches Step o (remarked (mark_for to from) (c ∷ w)) q
        by None g h rec = let bad : None ≡ Some r = h in absurd (cc)
        by (Some next) g h rec =
            let k = rec next h in
            let s : CopiedStep to from base a o (mark_for to from c.0) c.1 (base + next) = record { state = state; next = next; own_mark = c.0; at = at; byte = bytes.0; step = g; mark = refl; leads = refl } in
            (k.0, k.1, (base + next, steps o (mark_for to from c.0) c.1 (base + next) s, k.2))

    pub back : (w : Marked) (o state q last : ℕ)
        → ((o state m b p : ℕ) → o ≡ base + state → state < states_of a → Step o m b p → CopiedStep to from base a o m b p)
        → ((o state m : ℕ) → o ≡ base + state → state < states_of a → End o m → CopiedEnd to from base a o m)
        → ((q m b r : ℕ) → next_of a q m b ≡ Some r → r < states_of a)
        → o ≡ base + state → state < states_of a → Reaches Step o w q → End q last → Origin w last state
    back [] o state q last steps ends within e lt r h =
        let s = ends q state last (sym r ∙ e) lt h in
        finish q last state s (same-state base q state s.state (sym r ∙ e) s.at)
    back (c ∷ w) o state q last steps ends within e lt r h =
        let s = steps o state c.0 c.1 r.0 e lt r.1 in
        let rest = back w r.0 s.next q last steps ends within s.leads (within s.state s.own_mark c.1 s.next s.step) r.2 h in
        extend o state r.0 last c w s (same-state base o state s.state e s.at) rest

  -- an accepted text of a tuple is that of a tuple of the operand
  pub record Answer (s : List ℕ) (t : List (Option Span)) : Type 0 where
    pub tuple : List (Option Span)
    pub size : length tuple ≡ length from
    pub answer : IsAnswerOf a s tuple
    pub same : t ≡ tuple_for to from tuple

  pub answer-of : (s : List ℕ) (t : List (Option Span)) → IsDeterministic a → length from ≡ a.variables → length to ≤ 8 → length s ≤ 281474976710656 → length t ≡ length to → Lies (length s) t → Renamed (marked_text s t) → Answer s t
  answer-of s t det size few short len lies h =
      let f = mark_for to from in
      let pairs : (marked_text s t).pairs ≡ remarked f h.text.pairs = ap (λ (w : MarkedText). w.pairs) h.same in
      let bytes : bytes_of h.text.pairs ≡ s = sym (bytes-remarked f h.text.pairs) ∙ sym (ap bytes_of pairs) ∙ bytes-word _ 1 s in
      let long : length h.text.pairs ≤ 281474976710656 = omega (arith, short, ap length bytes, length-bytes h.text.pairs) in
      let m = det.accepted h.text long h.accepted in
      let u = m.tuple in
      let text : h.text ≡ marked_text s u = m.marks ∙ ap (λ x. marked_text x u) bytes in
      let lies_u : Lies (length s) u = subst (λ (x : List ℕ). Lies (length x) u) bytes m.lies in
      let count : length u ≡ length from = m.size ∙ sym size in
      let both : marked_text s t ≡ marked_text s (tuple_for to from u) = h.same ∙ ap (remarked_text f) text ∙ renamed-text to from s u count in
      record {
        tuple = u;
        size = count;
        answer = record { size = m.size; lies = lies_u; accepted = subst (λ (w : MarkedText). PathAccepts a w) text h.accepted };
        same = text-tells s t (tuple_for to from u) short (omega (arith, few, len)) (len ∙ sym (length-for to from u)) lies (lies-for (length s) to from u lies_u) both;
      }
    where
      length-bytes : (w : Marked) → length (bytes_of w) ≡ length w
      length-bytes [] = refl
      length-bytes (c ∷ w) = ap suc (length-bytes w)

  pub answer-from : (s : List ℕ) (u : List (Option Span)) → length u ≡ length from → IsAnswerOf a s u → Renamed (marked_text s (tuple_for to from u))
  answer-from s u count h = record { text = marked_text s u; accepted = h.accepted; same = sym (renamed-text to from s u count) }
