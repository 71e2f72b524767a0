-- Where the spans of a tuple start and end, the order of words, and the members of the list of answers.
use Rattle.span_enum.proofs.Base.{Accepted, AcceptsEnd, AcceptsWord, AreFinals, AreSpans, AreTables, Bool, CanRun, Comes, Contains, DeterministicAutomaton, Dictionary, EndsPast, Gives, HasMember, IfSome, IsAfter, IsBound, IsDeterministic}
use Rattle.span_enum.proofs.Base.{IsFirstLeft, IsFirstMember, IsLook, IsMarked, IsMember, IsPast, IsSpan, IsTupleOf, IsWord, Lies, List, Marked, MarkedText, NoMemberLeft, Node, None, NoneLeft, OneLetter, Option, Parts, PathAccepts}
use Rattle.span_enum.proofs.Base.{Precedes, Row, Some, Span, Spans, Tuple, Wellmarked, [], and-true, and_right, ap, arith, at_position, blanks, bool-cases, bytes-append, bytes_of, cases_eq, cases_lt, closing, count_of, ended, ends_of, eq-eqb}
use Rattle.span_enum.proofs.Base.{false, four_le, get_or, inl, inr, le-leb, leb-true, length, length-bytes, mark, mark-free, mark_count, mark_of, marked, marked_text, marks-few, member, nat_le, next_of, not, not-both, one-letter, onto}
use Rattle.span_enum.proofs.Base.{opening, or-cases, or-left, or-right, part_of, path, path-append, path-dead, path-on, path-one, path-parts, precedes-append, precedes-prefix, precedes-split, reached, reaches, reads, refl, seeks, span-is}
use Rattle.span_enum.proofs.Base.{spans-at, spans_of, step_of, subst, suc, sym, text, then-between, tree, true, word-end, word_of, word_over, write_word, zero, ℕ, ◌&&◌, ◌*◌, ◌++◌, ◌+◌, ◌<◌, ◌^◌, ◌↔◌, ◌∙◌, ◌∷◌, ◌≡◌, ◌≤◌, ◌⊎◌}
use Rattle.span_enum.specs.Tuples.{end_mark}
use Rattle.span_enum.proofs.Runs.{AreBytes, end-facts, end-step, final-end, member-one, run-bytes, run-within}
use Rattle.span_enum.proofs.Tables.{look-table}
use Rattle.span_enum.proofs.Words.{append-same, over-bytes, over-length}
use Rattle.span_types.proofs.WordLaws.{tells}

-- ---- marks
four-some : (v : ℕ) → 0 < 4 ^ v
four-some v = omega (arith, four_le 0 v (omega arith))

at-own : (i x p : ℕ) → i ≡ p → at_position i x p ≡ x
at-own i x p e = rw (eq-eqb p i (sym e)) refl

part-some : (v : ℕ) (o : Option Span) (p : ℕ) → IsBound o p → 0 < part_of v o p
part-some v None p h = absurd h
part-some v (Some q) p (inl e) = omega (arith, at-own q.start (opening v) p e, four-some v)
part-some v (Some q) p (inr e) = omega (arith, at-own q.end (closing v) p e, four-some v)

bound-some : (k : ℕ) (t : Spans) (v p : ℕ) → v < k → IsBound (t v) p → 0 < mark k t p
bound-some zero t v p lt h = absurd (omega arith)
bound-some (suc k) t v p lt h = elim (cases_eq v k) [
  | inl e ↦ let b : IsBound (t k) p = subst (λ n. IsBound (t n) p) e h in omega (arith, part-some k (t k) p b)
  | inr ne ↦ let low : v < k = omega arith in omega (arith, bound-some k t v p low h)
]

-- a bound of a span makes a mark
pub mark-some : (t : Tuple) (v p : ℕ) → v < length t → IsBound (spans_of t v) p → 0 < mark_of t p
mark-some t v p lt h = bound-some (length t) (spans_of t) v p lt h

-- without a bound there is no mark
pub mark-none : (t : Tuple) (p : ℕ) → ((v : ℕ) → v < length t → IsBound (spans_of t v) p → ⊥) → mark_of t p ≡ 0
mark-none t p none = mark-free (length t) (spans_of t) p (λ v lt. record {
  start = λ q e i. none v lt (bound v q e (inl (sym i)));
  end = λ q e i. none v lt (bound v q e (inr (sym i)));
})
  where
    bound : (v : ℕ) (q : Span) → spans_of t v ≡ Some q → (q.start ≡ p) ⊎ (q.end ≡ p) → IsBound (spans_of t v) p
    bound v q e h = rw e h

-- ---- spans that end past a position
pub reaches-some : (p : ℕ) (t : Tuple) (v : ℕ) → EndsPast (spans_of t v) p → reaches p t ≡ true
reaches-some p [] v h = absurd h
reaches-some p (None ∷ t) zero h = absurd h
reaches-some p (None ∷ t) (suc v) h = reaches-some p t v h
reaches-some p (Some x ∷ t) zero h = or-left _ _ (le-leb p x.end h)
reaches-some p (Some x ∷ t) (suc v) h = or-right _ _ (reaches-some p t v h)

-- some span reaches there
record Reaching (p : ℕ) (t : Tuple) : Type 0 where
  place : ℕ
  there : place < length t
  far : EndsPast (spans_of t place) p

reaching : (p : ℕ) (t : Tuple) → reaches p t ≡ true → Reaching p t
reaching p [] e = cc
reaching p (None ∷ t) e = let r = reaching p t e in record { place = suc r.place; there = omega (arith, r.there); far = r.far }
reaching p (Some q ∷ t) e = by (or-cases (nat_le p q.end) (reaches p t) e) (λ h. reaching p t h)
  where
    by : (nat_le p q.end ≡ true) ⊎ (reaches p t ≡ true) → (reaches p t ≡ true → Reaching p t) → Reaching p (Some q ∷ t)
    by (inl le) rest = record { place = 0; there = omega arith; far = leb-true p q.end le }
    by (inr h) rest = let r = rest h in record { place = suc r.place; there = omega (arith, r.there); far = r.far }

pub reaches-none : (p : ℕ) (t : Tuple) → ((v : ℕ) → v < length t → EndsPast (spans_of t v) p → ⊥) → reaches p t ≡ false
reaches-none p t none = elim (bool-cases (reaches p t)) [ inl e ↦ let r = reaching p t e in absurd (none r.place r.there r.far) | inr e ↦ e ]

-- the span that ends there or past it
past-span : (o : Option Span) (p : ℕ) → EndsPast o p → (q : Span) × (o ≡ Some q) × (p ≤ q.end) × IsBound o q.end
past-span None p h = absurd h
past-span (Some q) p h = (q, refl, h, inr refl)

-- and the other way
none-reaches : (p : ℕ) (t : Tuple) (v : ℕ) (q : Span) → reaches p t ≡ false → spans_of t v ≡ Some q → q.end < p
none-reaches p t v q h e = elim (cases_lt q.end p) [ inl lt ↦ lt | inr ge ↦ not-both (reaches p t) (reaches-some p t v (rw e ge)) h ]

-- ---- how many marks
-- at most two marks for each variable
pub few-marks : (k : ℕ) (t : Tuple) (s : List ℕ) → length t ≡ k → mark_count (word_over t 1 s) ≤ 2 * k
few-marks k t s e = omega (arith, marks-few (length t) (spans_of t) 1 s)

-- ---- bounds past the end
pub end_mark-more : (t : Tuple) (p : ℕ) → reaches (p + 1) t ≡ true → end_mark t p ≡ mark_of t p + 1
unfolding end_mark
end_mark-more t p h = rw h refl

pub end_mark-same : (t : Tuple) (p : ℕ) → reaches (p + 1) t ≡ false → end_mark t p ≡ mark_of t p
unfolding end_mark
end_mark-same t p h = rw h (omega arith)

-- a tuple in the text reaches no further
pub lies-reaches : (n : ℕ) (t : Tuple) → Lies n t → reaches (n + 1 + 1) t ≡ false
lies-reaches n t lies = reaches-none (n + 1 + 1) t (λ v lt far. let k = past-span (spans_of t v) (n + 1 + 1) far in omega (arith, (lies v k.0 k.1).2, k.2))

reaches-past : (n : ℕ) (t : Tuple) → reaches (n + 1 + 1) t ≡ true → IsPast n t
reaches-past n t h =
    let r = reaching (n + 1 + 1) t h in
    let k = past-span (spans_of t r.place) (n + 1 + 1) r.far in
    record { index = k.0.end; past = omega (arith, k.2); there = mark-some t r.place k.0.end r.there k.3 }

past-reaches : (n : ℕ) (t : Tuple) → AreSpans t → reaches (n + 1 + 1) t ≡ false → IsPast n t → ⊥
past-reaches n t spans h past = omega (arith, past.there, mark-none t past.index (λ v lt b. no v (spans_of t v) refl b))
  where
    no : (v : ℕ) (o : Option Span) → o ≡ spans_of t v → IsBound o past.index → ⊥
    no v None e b = b
    no v (Some q) e b =
        let is : IsSpan q = span-is (spans_of t v) q (spans-at t v spans) (sym e) in
        let low : q.end < n + 1 + 1 = none-reaches (n + 1 + 1) t v q h (sym e) in
        elim b [ inl i ↦ omega (arith, past.past, is.ordered) | inr i ↦ omega (arith, past.past) ]

-- ---- words
marked-is : (s : List ℕ) (t : Tuple) → marked s t ≡ word_over t 1 s ++ (mark_of t (length s + 1), 256) ∷ []
marked-is s t =
    let e : 1 + length s ≡ length s + 1 = omega arith in
    word-end (mark_of t) s ∙ ap (λ n. word_over t 1 s ++ (mark_of t n, 256) ∷ []) e

pub word-same : (s : List ℕ) (t : Tuple) → reaches (length s + 1 + 1) t ≡ false → word_of t s ≡ marked s t
word-same s t h = ap (λ m. word_over t 1 s ++ (m, 256) ∷ []) (end_mark-same t (length s + 1) h) ∙ sym (marked-is s t)

pub word-lies : (s : List ℕ) (t : Tuple) → Lies (length s) t → word_of t s ≡ marked s t
word-lies s t lies = word-same s t (lies-reaches (length s) t lies)

-- a tuple is read back from its marks
pub read-back : (k : ℕ) (t : Tuple) (s : List ℕ) → IsTupleOf k t → Lies (length s) t → write_word 1 (word_of t s) (blanks k) ≡ t
read-back k t s is lies =
    ap (λ w. write_word 1 w (blanks k)) (word-lies s t lies) ∙ ap (λ n. write_word 1 (marked s t) (blanks n)) (sym is.size) ∙ reads s t is.valid lies

-- ---- the order
-- a last mark that counts 1 more
raised : (w v : Marked) (m x : ℕ) → bytes_of w ≡ bytes_of v → Precedes (w ++ (m + 1, 256) ∷ []) (v ++ (x, 256) ∷ [])
    → Precedes (w ++ (m, 256) ∷ []) (v ++ (x, 256) ∷ []) ⊎ (w ++ (m, 256) ∷ [] ≡ v ++ (x, 256) ∷ [])
raised w v m x e h = elim (precedes-split w v ((m + 1, 256) ∷ []) ((x, 256) ∷ []) e h) [
  | inl before ↦ inl (precedes-append w v ((m, 256) ∷ []) ((x, 256) ∷ []) before)
  | inr k ↦ elim k.1 [
    | inl lt ↦ elim (cases_eq x m) [
      | inl same ↦ inr (rw (k.0, same) refl)
      | inr ne ↦ inl (rw k.0 (precedes-prefix v ((m, 256) ∷ []) ((x, 256) ∷ []) (inl (omega arith))))
    ]
    | inr z ↦ absurd z.1
  ]
]

lowered : (w v : Marked) (m x : ℕ) → bytes_of w ≡ bytes_of v → Precedes (w ++ (m, 256) ∷ []) (v ++ (x, 256) ∷ []) ⊎ (w ++ (m, 256) ∷ [] ≡ v ++ (x, 256) ∷ [])
    → Precedes (w ++ (m + 1, 256) ∷ []) (v ++ (x, 256) ∷ [])
lowered w v m x e (inl h) = elim (precedes-split w v ((m, 256) ∷ []) ((x, 256) ∷ []) e h) [
  | inl before ↦ precedes-append w v ((m + 1, 256) ∷ []) ((x, 256) ∷ []) before
  | inr k ↦ elim k.1 [ inl lt ↦ rw k.0 (precedes-prefix v ((m + 1, 256) ∷ []) ((x, 256) ∷ []) (inl (omega arith))) | inr z ↦ absurd z.1 ]
]
lowered w v m x e (inr same) = rw (← same) (precedes-prefix w ((m + 1, 256) ∷ []) ((m, 256) ∷ []) (inl (omega arith)))

-- the order of words is the order of tuples
pub order : (k : ℕ) (t u : Tuple) (s : List ℕ) → IsTupleOf k t → IsTupleOf k u → Lies (length s) u → Precedes (word_of t s) (word_of u s) ↔ Comes t u
order k t u s it iu lies =
    let law = seeks s t u it.valid iu.valid (it.size ∙ sym iu.size) lies in
    let bytes : bytes_of (word_over t 1 s) ≡ bytes_of (word_over u 1 s) = over-bytes t 1 s ∙ sym (over-bytes u 1 s) in
    let w = word_over t 1 s in
    let v = word_over u 1 s in
    let m = mark_of t (length s + 1) in
    let x = mark_of u (length s + 1) in
    let right : word_of u s ≡ v ++ (x, 256) ∷ [] = word-lies s u lies ∙ marked-is s u in
    elim (bool-cases (reaches (length s + 1 + 1) t)) [
      | inr h ↦ (
        (λ p. law.1 (inl (rw (word-same s t h, word-lies s u lies) at p))),
        (λ c. rw (word-same s t h, word-lies s u lies) (elim (law.0 c) [ inl p ↦ p | inr e ↦ absurd (past-reaches (length s) t it.valid.spans h e.1) ])),
      )
      | inl h ↦
          let more : word_of t s ≡ w ++ (m + 1, 256) ∷ [] = ap (λ n. w ++ (n, 256) ∷ []) (end_mark-more t (length s + 1) h) in (
            (λ p. law.1 (elim (raised w v m x bytes (rw (more, right) at p)) [
              | inl q ↦ inl (rw (marked-is s t, marked-is s u) q)
              | inr e ↦ inr (marked-is s t ∙ e ∙ sym (marked-is s u), reaches-past (length s) t h)
            ])),
            (λ c. rw (more, right) (lowered w v m x bytes (elim (law.0 c) [
              | inl q ↦ inl (rw (marked-is s t, marked-is s u) at q)
              | inr e ↦ inr (sym (marked-is s t) ∙ e.0 ∙ marked-is s u)
            ]))),
          )
    ]

-- ---- members of the list of answers, by the words that the automaton accepts
-- at most 2^48 bytes
pub record IsText (s : List ℕ) : Type 0 where
  pub bytes : AreBytes s
  pub short : length s ≤ 281474976710656

pub no-text : IsText []
no-text = record { bytes = λ k d lt. absurd (omega arith); short = omega arith }

pub look-text : (a : DeterministicAutomaton) (nodes : List Node) (d : Dictionary) → AreTables a nodes d → count_of d ≡ length nodes
    → (id : ℕ) (node : Node) (len : ℕ) (t : List Row) → id < length nodes → IsLook nodes d id node len t → IsText (text (tree nodes id))
look-text a nodes d all counted id node len t live look = record { bytes = (look-table a nodes d all counted id node len t live look).bytes; short = omega (arith, look.len_is, look.short) }

pub are-spans : (n : ℕ) (t : Tuple) → n ≤ 281474976710656 → Lies n t → AreSpans t
are-spans n [] short h = tt
are-spans n (None ∷ t) short h = are-spans n t short (λ v q e. h (suc v) q e)
are-spans n (Some x ∷ t) short h =
    let f = h 0 x refl in
    (record { positive = f.0; ordered = f.1; small = omega (arith, f.2) }, are-spans n t short (λ v q e. h (suc v) q e))

pub word-bytes : (t : Tuple) (s : List ℕ) → bytes_of (word_of t s) ≡ ended s
word-bytes t s = bytes-append (word_over t 1 s) ((end_mark t (length s + 1), 256) ∷ []) ∙ ap (λ b. b ++ 256 ∷ []) (over-bytes t 1 s)

-- the last mark of a tuple in the text
last-mark : (s : List ℕ) (t : Tuple) → Lies (length s) t → end_mark t (length s + 1) ≡ mark_of t (suc (length s))
last-mark s t lies =
    let e : length s + 1 ≡ suc (length s) = omega arith in
    end_mark-same t (length s + 1) (lies-reaches (length s) t lies) ∙ ap (mark_of t) e

-- ---- the run over a word and its end
pub word-run : (a : DeterministicAutomaton) (p q : ℕ) (w : Marked) (m : ℕ) → reached a p w ≡ Some q → reached a p (w ++ (m, 256) ∷ []) ≡ step_of a q m 256
word-run a p q w m e = path-on (step_of a) p q w ((m, 256) ∷ []) e ∙ path-one (step_of a) q m 256

-- a run to the end, cut before it
record Ended (a : DeterministicAutomaton) (s : List ℕ) (w : Marked) (q : ℕ) : Type 0 where
  parts : Parts (step_of a) 0 s (256 ∷ []) w q
  last : OneLetter (step_of a) parts.middle 256 parts.right q

ended-run : (a : DeterministicAutomaton) (s : List ℕ) (w : Marked) (q : ℕ) → bytes_of w ≡ ended s → reached a 0 w ≡ Some q → Ended a s w q
ended-run a s w q e t =
    let k = path-parts (step_of a) 0 s (256 ∷ []) w q e t in
    record { parts = k; last = one-letter (step_of a) k.middle 256 q k.right k.right_bytes k.right_ends }

module _ (a : DeterministicAutomaton) (auto : IsDeterministic a) (s : List ℕ) (is : IsText s) where
  on-bytes : (w : Marked) → bytes_of w ≡ s → reached a 0 w ≡ path (next_of a) w 0
  on-bytes w e = run-bytes a 0 w (rw e is.bytes)

  -- each accepted word is that of a tuple
  pub wellmarked : Wellmarked a s
  wellmarked w q e t =
      let k = ended-run a s w q e t in
      let prefix = k.parts.left in
      let bytes = k.parts.left_bytes in
      let text : MarkedText = record { pairs = prefix; last = k.last.mark } in
      let accepts : PathAccepts a text = record { state = k.parts.middle; leads = sym (on-bytes prefix bytes) ∙ k.parts.left_ends; may_end = (end-facts a k.parts.middle k.last.mark q k.last.step).1 } in
      let m : IsMarked a.variables text = auto.accepted text (omega (arith, length-bytes prefix, ap length bytes, is.short)) accepts in
      let lies : Lies (length s) m.tuple = subst (λ (x : List ℕ). Lies (length x) m.tuple) bytes m.lies in
      let marks : text ≡ marked_text s m.tuple = subst (λ (x : List ℕ). text ≡ marked_text x m.tuple) bytes m.marks in
      let end : k.last.mark ≡ end_mark m.tuple (length s + 1) = ap (λ x. x.last) marks ∙ sym (last-mark s m.tuple lies) in
      record {
        tuple = m.tuple;
        tuple_is = record { size = m.size; valid = m.valid };
        lies = lies;
        word_is = k.parts.joined ∙ ap (λ x. prefix ++ x) k.last.word ∙ ap (λ x. x ++ (k.last.mark, 256) ∷ []) (ap (λ x. x.pairs) marks) ∙ ap (λ n. word_over m.tuple 1 s ++ (n, 256) ∷ []) end;
      }

  pub accepted-word : (w : Marked) (r e : ℕ) → bytes_of w ≡ s → reached a 0 w ≡ Some r → step_of a r e 256 ≡ Some 0 → (k : IsWord a.variables s (w ++ (e, 256) ∷ [])) × (w ≡ word_over k.tuple 1 s)
  accepted-word w r e bytes run step =
      let k = wellmarked (w ++ (e, 256) ∷ []) 0 (bytes-append w ((e, 256) ∷ []) ∙ ap (λ b. b ++ 256 ∷ []) bytes) (word-run a 0 r w e run ∙ step) in
      (k, (append-same w ((e, 256) ∷ []) (word_over k.tuple 1 s) ((end_mark k.tuple (length s + 1), 256) ∷ []) (sym (length-bytes w) ∙ ap length bytes ∙ sym (over-length k.tuple 1 s)) k.word_is).0)

  -- so it has few marks
  pub accepted-few : (finals : ℕ) → AreFinals a finals → (w : Marked) (r : ℕ) → bytes_of w ≡ s → reached a 0 w ≡ Some r → member finals r ≡ true → mark_count w ≤ 2 * a.variables
  accepted-few finals all w r bytes run goal =
      let final = sym (all r (run-within a auto 0 r w auto.has_start run)) ∙ goal in
      let k = accepted-word w r (get_or (ends_of a r) 0 0) bytes run (final-end a r final) in
      rw k.1 (few-marks a.variables k.0.tuple s k.0.tuple_is.size)

  pub tuple-of_member : (t : Tuple) → IsMember a s t → IsTupleOf a.variables t
  tuple-of_member t m = record { size = m.size; valid = record { few = omega (arith, m.size, auto.few_variables); spans = are-spans (length s) t is.short m.lies } }

  pub accepts-from_member : (t : Tuple) → IsMember a s t → AcceptsWord a s t
  accepts-from_member t m =
      let r = m.accepted in
      let prefix : reached a 0 (word_over t 1 s) ≡ Some r.state = on-bytes (word_over t 1 s) (over-bytes t 1 s) ∙ r.leads in
      record { lies = m.lies; ends = word-run a 0 r.state (word_over t 1 s) (end_mark t (length s + 1)) prefix ∙ end-step a r.state (end_mark t (length s + 1)) (rw (last-mark s t m.lies) r.may_end) }

  pub member-from_accepts : (t : Tuple) → length t ≡ a.variables → AcceptsWord a s t → IsMember a s t
  member-from_accepts t size h =
      let x = end_mark t (length s + 1) in
      let mid = then-between (λ q. reached a q ((x, 256) ∷ [])) (reached a 0 (word_over t 1 s)) 0 (sym (path-append (step_of a) 0 (word_over t 1 s) ((x, 256) ∷ [])) ∙ h.ends) in
      let among : Contains (ends_of a mid.0) x = (end-facts a mid.0 x 0 (sym (path-one (step_of a) mid.0 x 256) ∙ mid.2)).1 in
      record {
        size = size;
        lies = h.lies;
        accepted = record { state = mid.0; leads = sym (on-bytes (word_over t 1 s) (over-bytes t 1 s)) ∙ mid.1; may_end = subst (λ (n : ℕ). Contains (ends_of a mid.0) n) (last-mark s t h.lies) among };
      }

  pub some-from_accepted : Accepted a s → HasMember a s
  some-from_accepted run =
      let m = wellmarked run.word run.state run.bytes run.ends in
      let k = ended-run a s run.word run.state run.bytes run.ends in
      let start : run.state ≡ 0 = (end-facts a k.parts.middle k.last.mark run.state k.last.step).0 in
      (m.tuple, member-from_accepts m.tuple m.tuple_is.size (record { lies = m.lies; ends = ap (reached a 0) (sym m.word_is) ∙ run.ends ∙ ap Some start }))

  -- the word of a member is accepted
  member-run : (t : Tuple) → IsMember a s t → CanRun a 0 (ended s) 1
  member-run t m = record { word = word_of t s; state = 0; bytes = word-bytes t s; ends = (accepts-from_member t m).ends; goal = member-one }

  pub accepted-from_some : HasMember a s → Accepted a s
  accepted-from_some h = member-run h.0 h.1

  -- and comes after that of the tuple before it
  member-after : (t v : Tuple) → IsTupleOf a.variables t → IsMember a s v → Comes t v → IsAfter a 0 (ended s) 1 (word_of t s) (word_of v s) 0
  member-after t v it m left = record {
    bytes = word-bytes v s;
    ends = (accepts-from_member v m).ends;
    goal = member-one;
    after = (order a.variables t v s it (tuple-of_member v m) m.lies).1 left;
  }

  -- ---- the first member that is left, by its word
  pub first-member : (cursor : Option Tuple) (u : Tuple) → IfSome cursor (IsTupleOf a.variables) → Gives a s cursor u → IsFirstMember a s cursor u
  first-member cursor u it g = by cursor it g.first
    where
      least : (v : Tuple) → IsMember a s v → (word_of v s ≡ word_of u s) ⊎ Precedes (word_of u s) (word_of v s) → (v ≡ u) ⊎ Comes u v
      least v m (inl same) = inl (tells s v u (tuple-of_member v m).valid g.tuple.valid (m.size ∙ sym g.tuple.size) m.lies g.lies (sym (word-lies s v m.lies) ∙ same ∙ word-lies s u g.lies))
      least v m (inr before) = inr ((order a.variables u v s g.tuple (tuple-of_member v m) m.lies).0 before)

      accepted : reached a 0 (word_of u s) ≡ Some 0 → IsMember a s u
      accepted e = member-from_accepts u g.tuple.size (record { lies = g.lies; ends = e })

      by : (cursor : Option Tuple) → IfSome cursor (IsTupleOf a.variables) → IsFirstLeft a s cursor (word_of u s) → IsFirstMember a s cursor u
      by None it f = record { member = accepted f.ends; left = tt; least = λ v m left. least v m (f.least (word_of v s) 0 (word-bytes v s) (accepts-from_member v m).ends member-one) }
      by (Some t) it f = record {
        member = accepted f.is_after.ends;
        left = (order a.variables t u s it g.tuple g.lies).0 f.is_after.after;
        least = λ v m left. least v m (f.least (word_of v s) 0 (member-after t v it m left));
      }

  pub none-member : (cursor : Option Tuple) → IfSome cursor (IsTupleOf a.variables) → NoneLeft a s cursor → NoMemberLeft a s cursor
  none-member None it none v m left = none (member-run v m)
  none-member (Some t) it none v m left = none (word_of v s) 0 (member-after t v it m left)

-- ---- one tuple
end-of_word : (a : DeterministicAutomaton) (s : List ℕ) (t : Tuple) (o : Option ℕ) → o ≡ reached a 0 (word_over t 1 s) → reached a 0 (word_of t s) ≡ onto (λ q. step_of a q (end_mark t (length s + 1)) 256) o
end-of_word a s t None e = path-dead (step_of a) 0 (word_over t 1 s) ((end_mark t (length s + 1), 256) ∷ []) (sym e)
end-of_word a s t (Some q) e = word-run a 0 q (word_over t 1 s) (end_mark t (length s + 1)) (sym e)

pub accepts-from_end : (a : DeterministicAutomaton) (s : List ℕ) (t : Tuple) (o : Option ℕ) → AreSpans t → o ≡ reached a 0 (word_over t 1 s) → AcceptsEnd a o t (length s + 1) → AcceptsWord a s t
accepts-from_end a s t o spans e h = record {
  lies = λ v q k. let is = span-is (spans_of t v) q (spans-at t v spans) k in (is.positive, is.ordered, omega (arith, none-reaches (length s + 1 + 1) t v q h.lies k));
  ends = end-of_word a s t o e ∙ h.ends;
}

pub end-from_accepts : (a : DeterministicAutomaton) (s : List ℕ) (t : Tuple) (o : Option ℕ) → o ≡ reached a 0 (word_over t 1 s) → AcceptsWord a s t → AcceptsEnd a o t (length s + 1)
end-from_accepts a s t o e h = record { lies = lies-reaches (length s) t h.lies; ends = sym (end-of_word a s t o e) ∙ h.ends }

pub end-both : (a : DeterministicAutomaton) (q m : ℕ) (t : Tuple) (end : ℕ) (fits past : Bool) → m ≡ mark_of t end → past ≡ reaches (end + 1) t
    → (fits ≡ true → step_of a q m 256 ≡ Some 0) → (step_of a q m 256 ≡ Some 0 → fits ≡ true)
    → ((fits && not past) ≡ true → AcceptsEnd a (Some q) t end) × (AcceptsEnd a (Some q) t end → (fits && not past) ≡ true)
end-both a q m t end fits true em ep to from = ((λ h. not-both false (sym (and_right fits false refl) ∙ h) refl), (λ h. not-both (reaches (end + 1) t) (sym ep) h.lies))
end-both a q m t end fits false em ep to from =
    let same : end_mark t end ≡ m = end_mark-same t end (sym ep) ∙ sym em in (
      (λ h. record { lies = sym ep; ends = ap (λ n. step_of a q n 256) same ∙ to (sym (and-true fits) ∙ h) }),
      (λ h. and-true fits ∙ from (ap (λ n. step_of a q n 256) (sym same) ∙ h.ends)),
    )
