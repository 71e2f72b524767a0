-- What an automaton that has a copy of an operand accepts.
use Rattle.std.proofs.Common.{◌≡◌, ℕ, ◌≤◌, inr, List, length, refl, sym, ap, subst, ◌∙◌, arith}
use Rattle.span_types.specs.Words.{Marked}
use Rattle.formula_law.specs.Accepts.{MarkedText, Reaches}
use Rattle.formula_law.specs.Law.{bytes_of}
use Rattle.marker_nfa.specs.Automaton.{Automaton, Moves, AcceptsText, IsMarked}
use Rattle.marker_nfa.proofs.Accepting.{reaches_by}
use Rattle.marker_dfa.specs.Deterministic.{DeterministicAutomaton, IsDeterministic}
use Rattle.span_algebra.specs.Renaming.{mark_for}
use Rattle.span_algebra.specs.TreeAutomaton.{CopiedStep, CopiedEnd}
use Rattle.span_algebra.specs.Answers.{AreBytes}
use Rattle.span_algebra.specs.Making.{HasParts}
use Rattle.span_algebra.proofs.TextLaws.{remarked, bytes-remarked, length-remarked, marked-for}
use Rattle.span_algebra.proofs.CopyLaws.{Renamed, forth}

pub made : (size : ℕ) (Step : ℕ → ℕ → ℕ → ℕ → Type 0) (End : ℕ → ℕ → Type 0) (n : Automaton) → HasParts size Step End n
    → (to from : List (List ℕ)) (base : ℕ) (d : DeterministicAutomaton) → ((o m c p : ℕ) → CopiedStep to from base d o m c p → Step o m c p) → ((o m : ℕ) → CopiedEnd to from base d o m → End o m)
    → (w : MarkedText) → AreBytes (bytes_of w.pairs) → Renamed to from base d w → AcceptsText n w
made size Step End n is to from base d steps ends w bytes h =
    let f = mark_for to from in
    let pairs : remarked f h.text.pairs ≡ w.pairs = sym (ap (λ (x : MarkedText). x.pairs) h.same) in
    let last : f h.text.last ≡ w.last = sym (ap (λ (x : MarkedText). x.last) h.same) in
    let same : bytes_of w.pairs ≡ bytes_of h.text.pairs = sym (ap bytes_of pairs) ∙ bytes-remarked f h.text.pairs in
    let k = forth to from base d Step End h.text.pairs 0 0 h.accepted.state steps (subst (λ (x : List ℕ). AreBytes x) same bytes) (inr (refl, refl)) h.accepted.leads in
    let e : End k.0 (f h.text.last) = ends k.0 (f h.text.last) (record { state = h.accepted.state; own_mark = h.text.last; at = k.1; may_end = h.accepted.may_end; mark = refl }) in
    record {
      state = k.0;
      reaches = reaches_by Step (Moves n) is.step_from 0 w.pairs k.0 (subst (λ (x : Marked). Reaches Step 0 x k.0) pairs k.2);
      ends = is.end_from k.0 w.last (subst (λ (x : ℕ). End k.0 x) last e);
    }

pub renamed-marked : (names from : List (List ℕ)) (base : ℕ) (d : DeterministicAutomaton) (w : MarkedText) → length names ≤ 8 → length w.pairs ≤ 281474976710656 → IsDeterministic d → length from ≡ d.variables → Renamed names from base d w → IsMarked (length names) w
renamed-marked names from base d w few short det size r =
    let pairs : w.pairs ≡ remarked (mark_for names from) r.text.pairs = ap (λ (x : MarkedText). x.pairs) r.same in
    let long : length r.text.pairs ≤ 281474976710656 = omega (arith, short, ap length pairs, length-remarked (mark_for names from) r.text.pairs) in
    let m : IsMarked (length from) r.text = subst (λ (k : ℕ). IsMarked k r.text) (sym size) (det.accepted r.text long r.accepted) in
    subst (λ (x : MarkedText). IsMarked (length names) x) (sym r.same) (marked-for names from r.text few long m)
