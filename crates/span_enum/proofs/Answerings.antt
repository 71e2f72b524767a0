-- The next answer and what is kept of it, from the walk that completes it.
use Rattle.span_enum.proofs.Base.{Ahead, Begins, DeterministicAutomaton, EndsIn, Finishes, Found, Gives, EnumerationInput, IfSome, IsDeterministic, IsFirst, IsFirstLeft, IsFirstMember, IsFoundAfter, IsGreatestMark, IsEnumerationInput, IsMember, IsNext}
use Rattle.span_enum.proofs.Base.{IsStateAt, IsTrailOf, IsTupleOf, List, Mark, Marked, NoEndAfter, NoMemberLeft, None, NoneAfter, Option, WalkPosition, Some, Tuple, [], ap, append-nil, arith, blanks, bytes_of, cut, end_mark, ended, height_limit}
use Rattle.span_enum.proofs.Base.{length, length-bytes, looks_limit, mark_count, reached, step_of, subst, sym, text_ahead, whole_text, word_of, word_over, write_mark, write_word, ℕ, ◌++◌, ◌+◌, ◌∙◌, ◌∷◌, ◌≡◌, ◌≤◌}
use Rattle.span_enum.proofs.Kept.{leads-on}
use Rattle.span_enum.proofs.Runs.{IsFirst-byte, IsFirst-fork, fit-end, member-one, reach-end}
use Rattle.span_enum.proofs.Tuples.{IsText, accepted-word, accepts-from_member, first-member, none-member, read-back, word-run}
use Rattle.span_enum.proofs.Walks.{begins-few}
use Rattle.span_enum.proofs.Words.{IsNext-byte, IsNext-fork, IsNext-prefix, looks-within, none-byte, none-fork, none-plain, over-bytes, read-cut, write_word-append}

first-end : (a : DeterministicAutomaton) (auto : IsDeterministic a) (q e : ℕ) → IsGreatestMark a q 256 1 65536 e 0 → IsFirst a q (256 ∷ []) 1 ((e, 256) ∷ []) 0
first-end a auto q e best = IsFirst-byte a q 256 e 1 0 best.step best.goal (λ n r sn gn. best.most n r (fit-end a auto q n r sn) sn gn)

module _ {words : ℕ} (g : EnumerationInput words) (is : IsEnumerationInput g) (text : IsText (whole_text g)) where
  abbrev a : DeterministicAutomaton
  a = g.dfa.now

  abbrev s : List ℕ
  s = whole_text g

  -- ---- the answer of a word
  answer-word : (cursor : Option Tuple) → IfSome cursor (IsTupleOf a.variables) → (v : Marked) (r e : ℕ) (u : Tuple) → bytes_of v ≡ s → reached a 0 v ≡ Some r → step_of a r e 256 ≡ Some 0
      → IsFirstLeft a s cursor (v ++ (e, 256) ∷ []) → u ≡ write_mark e (length s + 1) (write_word 1 v (blanks a.variables)) → IsFirstMember a s cursor u × (word_over u 1 s ≡ v)
  answer-word cursor it v r e u bytes run step left written =
      let k = accepted-word a is.automaton s text v r e bytes run step in
      let place : length s + 1 ≡ 1 + length v = omega (arith, length-bytes v, ap length bytes) in
      let same : u ≡ k.0.tuple =
      written ∙ ap (λ n. write_mark e n (write_word 1 v (blanks a.variables))) place ∙ sym (write_word-append 1 v ((e, 256) ∷ []) (blanks a.variables))
      ∙ ap (λ w. write_word 1 w (blanks a.variables)) k.0.word_is ∙ read-back a.variables k.0.tuple s k.0.tuple_is k.0.lies in
      let gives : Gives a s cursor k.0.tuple = record { tuple = k.0.tuple_is; lies = k.0.lies; first = subst (IsFirstLeft a s cursor) k.0.word_is left } in
      (rw same (first-member a is.automaton s text cursor k.0.tuple it gives), ap (λ x. word_over x 1 s) same ∙ sym k.1)

  -- the first text with the greatest mark at its end is the first to be accepted, and likewise the next
  pub first-ended : (w : Marked) (r e : ℕ) → IsFirst a 0 s g.finals w r → IsGreatestMark a r 256 1 65536 e 0 → IsFirst a 0 (ended s) 1 (w ++ (e, 256) ∷ []) 0
  first-ended w r e first best =
      IsFirst-fork a s (256 ∷ []) 0 r 0 1 g.finals w ((e, 256) ∷ []) (reach-end a is.automaton g.finals is.all s 0 is.automaton.has_start) first (first-end a is.automaton r e best)

  module _ (t : Tuple) (noend : NoEndAfter g t (length s + 1)) where
    abbrev last : Marked
    last = (end_mark t (length s + 1), 256) ∷ []

    no-end : (q : ℕ) → reached a 0 (word_over t 1 s) ≡ Some q → NoneAfter a q (256 ∷ []) 1 last
    no-end q run = none-byte a q 256 1 (end_mark t (length s + 1)) (noend q run)

    pub next-ended : (v : Marked) (r e : ℕ) → IsNext a 0 s g.finals (word_over t 1 s) v r → IsGreatestMark a r 256 1 65536 e 0 → IsNext a 0 (ended s) 1 (word_of t s) (v ++ (e, 256) ∷ []) 0
    next-ended v r e next best =
        IsNext-fork a s (256 ∷ []) 0 1 (word_over t 1 s) last (over-bytes t 1 s) g.finals (reach-end a is.automaton g.finals is.all s 0 is.automaton.has_start) no-end r 0 v ((e, 256) ∷ []) next (first-end a is.automaton r e best)

    pub none-ended : IsTupleOf a.variables t → NoneAfter a 0 s g.finals (word_over t 1 s) → NoMemberLeft a s (Some t)
    none-ended it none =
        none-member a is.automaton s text (Some t) it
        (none-fork a s (256 ∷ []) 0 1 (word_over t 1 s) last (over-bytes t 1 s) g.finals (reach-end a is.automaton g.finals is.all s 0 is.automaton.has_start) no-end none)

  -- ---- the state at the end
  state-found : (u : Tuple) (o : Option ℕ) (q : ℕ) → EndsIn a o q → reached a 0 (word_over u 1 s) ≡ Some q → IsMember a s u → IsStateAt g (Some u) o
  state-found u (Some r) q e run m = run ∙ ap (λ n. Some n) (sym e)
  state-found u None q e run m = λ p k.
      let x = end_mark u (length s + 1) in
      let step : step_of a q x 256 ≡ Some 0 = sym (word-run a 0 q (word_over u 1 s) x run) ∙ (accepts-from_member a is.automaton s text u m).ends in
      let none : x ≤ 0 = e.most x 0 (fit-end a is.automaton q x 0 step) step member-one in
      omega (arith, none)

  -- ---- a lower mark at the end alone
  pub lowered-end : (t u : Tuple) → IsTupleOf a.variables t → (q m : ℕ) → reached a 0 (word_over t 1 s) ≡ Some q → IsGreatestMark a q 256 1 (end_mark t (length s + 1)) m 0
      → u ≡ write_mark m (length s + 1) (cut (length s + 1) t)
      → IsFirstMember a s (Some t) u × (word_over u 1 s ≡ word_over t 1 s) × (reached a 0 (word_over u 1 s) ≡ Some q)
  lowered-end t u it q m run best written =
      let x = end_mark t (length s + 1) in
      let next = IsNext-prefix a s (256 ∷ []) 0 1 (word_over t 1 s) ((x, 256) ∷ []) (over-bytes t 1 s) q 0 ((m, 256) ∷ []) run (IsNext-byte a q 256 1 x m 0 best) in
      let start : cut (length s + 1) t ≡ write_word 1 (word_over t 1 s) (blanks a.variables) = sym (read-cut t s it.valid.spans) ∙ ap (λ n. write_word 1 (word_over t 1 s) (blanks n)) it.size in
      let k = answer-word (Some t) it (word_over t 1 s) q m u (over-bytes t 1 s) run best.step next (written ∙ ap (write_mark m (length s + 1)) start) in
      (k.0, k.1, ap (reached a 0) k.1 ∙ run)

  -- ---- the answer that the walk finds
  pub answer-found : (cursor : Option Tuple) → IfSome cursor (IsTupleOf a.variables) → (place : WalkPosition) (base : ℕ) (word : Marked) (before after end : ℕ) (ms more : List (Mark words)) (hs new : List (Option (Ahead words))) (out : Tuple) (f : Found)
      → (b : Begins g place base word ms hs) → out ≡ write_word 1 word (blanks a.variables) → end ≡ length s + 1
      → ((w : Marked) (r e : ℕ) → IsFirst a place.state (text_ahead g b.chain) g.finals w r → IsGreatestMark a r 256 1 65536 e 0 → IsFirstLeft a s cursor ((word ++ w) ++ (e, 256) ∷ []))
      → Finishes g place base ms more hs new before after out end f
      → IsFoundAfter g cursor more new f × (after ≤ before + looks_limit a.variables (length s))
  answer-found cursor it place base word before after end ms more hs new out f b start at left fin =
      let found = fin.completes word b in
      let best = fin.greatest found.state found.ends in
      let v = word ++ found.rest in
      let on = leads-on g word place.state (text_ahead g b.chain) b.behind.leads found.rest found.state [] (sym found.first.bytes ∙ sym (append-nil (bytes_of found.rest))) found.first.ends in
      let bytes : bytes_of v ≡ s = sym (on.parts ∙ append-nil (bytes_of v)) in
      let written = fin.tuple_is ∙ ap (λ n. write_mark fin.mark n fin.written) at ∙ ap (write_mark fin.mark (length s + 1)) (found.written (blanks a.variables) start) in
      let k = answer-word cursor it v found.state fin.mark f.tuple bytes on.ends best.step (left found.rest found.state fin.mark found.first best) written in
      let few = begins-few g place base word ms hs b is text.short found.rest found.state found.first.bytes found.first.ends found.first.goal in (
        record {
          first = k.0;
          trail = record {
            read = v;
            left = [];
            back = [];
            word_is = k.1 ∙ sym (append-nil v);
            parts = on.parts;
            count = found.count;
            kept = found.kept;
            none = λ q run. none-plain a q [] g.finals;
          };
          state = state-found f.tuple f.state found.state found.ends (ap (reached a 0) k.1 ∙ on.ends) k.0.member;
        },
        looks-within a.variables (length s) (height_limit (length s)) (mark_count found.rest) before after (omega arith) (omega (arith, few)) (omega (arith, found.cost)),
      )

-- another tuple with the same marks over the text
pub trail-same : {words : ℕ} (g : EnumerationInput words) (t u : Tuple) (ms : List (Mark words)) (hs : List (Option (Ahead words))) → word_over u 1 (whole_text g) ≡ word_over t 1 (whole_text g) → IsTrailOf g t ms hs → IsTrailOf g u ms hs
trail-same g t u ms hs same is = record { read = is.read; left = is.left; back = is.back; word_is = same ∙ is.word_is; parts = is.parts; count = is.count; kept = is.kept; none = is.none }
