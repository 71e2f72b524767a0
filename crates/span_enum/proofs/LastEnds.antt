-- The last answer of one variable whose span starts at a position.
use Rattle.span_enum.proofs.Base.{AreFinals, DeterministicAutomaton, IsDeterministic, IsMember, Lies, List, Marked, None, Some, Span, Tuple, [], ap, append_assoc, arith, at_position, bytes-append, bytes_of, cases_eq, cases_lt}
use Rattle.span_enum.proofs.Base.{end_mark, ends_of, get_or, inl, inr, length, length-append, mark_of, member, path-append, path-on, reached, refl, step_of, subst, suc, sym, then-between, true, word_over, ℕ, ◌++◌, ◌+◌, ◌<◌, ◌∙◌, ◌∷◌, ◌≡◌, ◌≢◌, ◌≤◌, ◌⊎◌}
use Rattle.span_types.proofs.Sums.{at_same, at_other}
use Rattle.span_types.specs.Words.{word_from}
use Rattle.span_enum.proofs.Runs.{final-end, member-one, run-end, run-within}
use Rattle.span_enum.proofs.Tuples.{IsText, accepted-word, accepts-from_member, member-from_accepts, word-run}
use Rattle.span_enum.proofs.Words.{letter-same, over-append, over-bytes, over-split}
use Rattle.span_enum.specs.Agreement.{AgreesUntil}
use Rattle.span_enum.specs.LastEnd.{HasStart, IsLastEnd}

-- ---- words with the same marks
over-same : (f g : ℕ → ℕ) (p : ℕ) (s : List ℕ) → ((i : ℕ) → p ≤ i → i < p + length s → f i ≡ g i) → word_from f p s ≡ word_from g p s
over-same f g p [] same = refl
over-same f g p (b ∷ s) same = rw (same p (omega arith) (omega arith), over-same f g (suc p) s (λ i from to. same i (omega arith) (omega arith))) refl

same-over : (f g : ℕ → ℕ) (p : ℕ) (s : List ℕ) → word_from f p s ≡ word_from g p s → (i : ℕ) → p ≤ i → i < p + length s → f i ≡ g i
same-over f g p [] e i from to = absurd (omega arith)
same-over f g p (b ∷ s) e i from to =
    let k = letter-same (f p) (g p) b (word_from f (suc p) s) (word_from g (suc p) s) e in
    elim (cases_eq i p) [ inl same ↦ rw same k.0 | inr other ↦ same-over f g (suc p) s k.1 i (omega arith) (omega arith) ]

-- ---- one span
abbrev one : Span → Tuple
one q = Some q ∷ []

-- a span that starts at a position and doesn't end before the end of the longest text
abbrev pub open_at : ℕ → Tuple
open_at start = one (record { start = start; end = 281474976710657 })

mark-one : (q : Span) (p : ℕ) → mark_of (one q) p ≡ at_position q.start 1 p + at_position q.end 2 p
mark-one q p = omega arith

-- up to a position before its end a span has the marks of one that doesn't end
pub marks-open : (q : Span) (start position i : ℕ) → q.start ≡ start → position < q.end → position < 281474976710657 → i ≤ position → mark_of (one q) i ≡ mark_of (open_at start) i
marks-open q start position i e before low le =
    omega (
      arith,
      mark-one q i,
      mark-one (record { start = start; end = 281474976710657 }) i,
      ap (λ n. at_position n 1 i) e,
      at_other q.end 2 i (λ k. omega (arith, k, before, le)),
      at_other 281474976710657 2 i (λ k. omega (arith, k, low, le)),
    )

-- a tuple in a text
pub record IsOpened (start position : ℕ) (v : Tuple) : Type 0 where
  pub end : ℕ
  pub tuple_is : v ≡ one (record { start = start; end = end })
  pub behind : position ≤ end

-- a tuple that has those marks before a position past the start has this start, and no end before the position
pub opened-marks : (start position n : ℕ) (v : Tuple) → length v ≡ 1 → Lies n v → n ≤ 281474976710656 → 1 ≤ start → start < position → position ≤ n + 1
    → ((i : ℕ) → 1 ≤ i → i < position → mark_of v i ≡ mark_of (open_at start) i) → IsOpened start position v
opened-marks start position n [] size lies short positive before low same = absurd (omega (arith, size))
opened-marks start position n (x ∷ y ∷ v) size lies short positive before low same = absurd (omega (arith, size))
opened-marks start position n (None ∷ []) size lies short positive before low same =
    absurd (omega (
      arith,
      same start positive before,
      mark-one (record { start = start; end = 281474976710657 }) start,
      at_same start 1,
    ))
opened-marks start position n (Some q ∷ []) size lies short positive before low same = by (cases_eq q.start start) (cases_eq q.end start)
  where
    whole : Span
    whole = record { start = start; end = 281474976710657 }

    here : at_position q.start 1 start + at_position q.end 2 start ≡ 1
    here = omega (arith, same start positive before, mark-one q start, mark-one whole start, at_same start 1, at_other 281474976710657 2 start (λ k. omega (arith, k, before, low, short)))

    f : (1 ≤ q.start) × (q.start ≤ q.end) × (q.end ≤ suc n)
    f = lies 0 q refl

    ends : q.start ≡ start → (q.end ≡ start → ⊥) → (q.end < position) ⊎ (position ≤ q.end) → IsOpened start position (Some q ∷ [])
    ends e ne (inr le) = record { end = q.end; tuple_is = λ i. Some (record { start = e i; end = q.end }) ∷ []; behind = le }
    ends e ne (inl lt) =
        absurd (omega (
          arith,
          same q.end (omega (arith, f.0, f.1)) lt,
          mark-one q q.end,
          mark-one whole q.end,
          at_same q.end 2,
          at_other start 1 q.end ne,
          at_other 281474976710657 2 q.end (λ k. omega (arith, k, lt, low, short)),
        ))

    by : (q.start ≡ start) ⊎ (q.start ≢ start) → (q.end ≡ start) ⊎ (q.end ≢ start) → IsOpened start position (Some q ∷ [])
    by (inl e) (inr ne) = ends e ne (cases_lt q.end position)
    by (inl e) (inl k) = absurd (omega (arith, here, ap (λ m. at_position m 1 start) e, at_same start 1, ap (λ m. at_position m 2 start) k, at_same start 2))
    by (inr ne) (inl k) = absurd (omega (arith, here, at_other q.start 1 start (λ z. ne (sym z)), ap (λ m. at_position m 2 start) k, at_same start 2))
    by (inr ne) (inr nk) = absurd (omega (arith, here, at_other q.start 1 start (λ z. ne (sym z)), at_other q.end 2 start (λ z. nk (sym z))))

-- ---- the members with a start
module _ (a : DeterministicAutomaton) (auto : IsDeterministic a) (single : a.variables ≡ 1) (s : List ℕ) (text : IsText s) (finals : ℕ) (all : AreFinals a finals) (start : ℕ) (h : HasStart a s start) where
  bounds : (1 ≤ h.span.start) × (h.span.start ≤ h.span.end) × (h.span.end ≤ suc (length s))
  bounds = h.member.lies 0 h.span refl

  positive : 1 ≤ start
  positive = omega (arith, bounds.0, h.start_is)

  within : (q : Span) → IsMember a s (one q) → q.end ≤ length s + 1
  within q m = omega (arith, (m.lies 0 q refl).2)

  -- the span that is there, where its end is known
  this-one : (end : ℕ) → h.span.end ≡ end → IsMember a s (one (record { start = start; end = end }))
  this-one end e = let same : one h.span ≡ one (record { start = start; end = end }) = λ i. Some (record { start = h.start_is i; end = e i }) ∷ [] in subst (IsMember a s) same h.member

  pub late-end : length s + 1 ≤ start → IsLastEnd a s start (length s + 1)
  late-end late = record { member = this-one (length s + 1) (omega (arith, late, bounds.1, bounds.2, h.start_is)); last = λ q m e. within q m }

  -- the member of an accepted word
  record MemberOf (w : Marked) : Type 0 where
    tuple : Tuple
    member : IsMember a s tuple
    word_is : w ≡ word_over tuple 1 s

  member-of : (w : Marked) (r : ℕ) → bytes_of w ≡ s → reached a 0 w ≡ Some r → member finals r ≡ true → MemberOf w
  member-of w r bytes run goal =
      let step = final-end a r (sym (all r (run-within a auto 0 r w auto.has_start run)) ∙ goal) in
      let e = get_or (ends_of a r) 0 0 in
      let k = accepted-word a auto s text w r e bytes run step in
      let ends = ap (reached a 0) (sym k.0.word_is) ∙ word-run a 0 r w e run ∙ step in
      record { tuple = k.0.tuple; member = member-from_accepts a auto s text k.0.tuple k.0.tuple_is.size (record { lies = k.0.lies; ends = ends }); word_is = k.1 }

  -- the run of a member
  run-of : (u : Tuple) → IsMember a s u → (r : ℕ) × (reached a 0 (word_over u 1 s) ≡ Some r) × (member finals r ≡ true)
  run-of u m =
      let w = word_over u 1 s in
      let x = end_mark u (length s + 1) in
      let mid = then-between (λ q. reached a q ((x, 256) ∷ [])) (reached a 0 w) 0 (sym (path-append (step_of a) 0 w ((x, 256) ∷ [])) ∙ (accepts-from_member a auto s text u m).ends) in
      (mid.0, mid.1, all mid.0 (run-within a auto 0 mid.0 w auto.has_start mid.1) ∙ run-end a mid.0 (record { word = (x, 256) ∷ []; state = 0; bytes = refl; ends = mid.2; goal = member-one }))

  -- a member with the marks of the open span before a position
  opened-member : (position : ℕ) (v : Tuple) → IsMember a s v → start < position → position ≤ length s + 1 → ((i : ℕ) → 1 ≤ i → i < position → mark_of v i ≡ mark_of (open_at start) i)
      → (end : ℕ) × IsMember a s (one (record { start = start; end = end })) × (position ≤ end)
  opened-member position v m before low same =
      let o = opened-marks start position (length s) v (m.size ∙ single) m.lies text.short positive before low same in
      (o.end, subst (IsMember a s) o.tuple_is m, o.behind)

  pub whole-end : (q : ℕ) → reached a 0 (word_over (open_at start) 1 s) ≡ Some q → member finals q ≡ true → IsLastEnd a s start (length s + 1)
  whole-end q run goal = elim (cases_lt start (length s + 1)) [ inl lt ↦ early lt | inr ge ↦ late-end ge ]
    where
      early : start < length s + 1 → IsLastEnd a s start (length s + 1)
      early lt =
          let k = member-of (word_over (open_at start) 1 s) q (over-bytes (open_at start) 1 s) run goal in
          let o = opened-member (length s + 1) k.tuple k.member lt (omega arith) (λ i from to. sym (same-over (mark_of (open_at start)) (mark_of k.tuple) 1 s k.word_is i from (omega (arith, to)))) in
          let e : o.0 ≡ length s + 1 = omega (arith, o.2, within (record { start = start; end = o.0 }) o.1) in
          record { member = subst (λ n. IsMember a s (one (record { start = start; end = n }))) e o.1; last = λ r m k. within r m }

  module _ (position : ℕ) (k : AgreesUntil a 0 (open_at start) 1 s finals position) where
    size : length s ≡ length k.prefix + suc (length k.back)
    size = ap length k.parts ∙ length-append k.prefix (k.letter ∷ k.back)

    abbrev upto : List ℕ
    upto = k.prefix ++ k.letter ∷ []

    upto-length : length upto ≡ length k.prefix + 1
    upto-length = length-append k.prefix (k.letter ∷ [])

    -- no run of a member passes the position with the span open
    no-later : (q : Span) → IsMember a s (one q) → q.start ≡ start → position < q.end → ⊥
    no-later q m e lt =
        let r = run-of (one q) m in
        let rest = word_over (one q) (1 + length upto) k.back in
        let parts : s ≡ upto ++ k.back = k.parts ∙ sym (append_assoc k.prefix (k.letter ∷ []) k.back) in
        let split : word_over (one q) 1 s ≡ word_over (one q) 1 upto ++ rest = ap (word_over (one q) 1) parts ∙ over-append (one q) 1 upto k.back in
        let mid = then-between (λ n. reached a n rest) (reached a 0 (word_over (one q) 1 upto)) r.0 (sym (path-append (step_of a) 0 (word_over (one q) 1 upto) rest) ∙ ap (reached a 0) (sym split) ∙ r.1) in
        let low : position < 281474976710657 = omega (arith, k.position_is, size, text.short) in
        let same : word_over (one q) 1 upto ≡ word_over (open_at start) 1 upto =
        over-same (mark_of (one q)) (mark_of (open_at start)) 1 upto (λ i from to. marks-open q start position i e lt low (omega (arith, to, upto-length, k.position_is))) in
        k.none mid.0 (ap (reached a 0) (sym same) ∙ mid.1) (record { word = rest; state = r.0; bytes = over-bytes (one q) (1 + length upto) k.back; ends = mid.2; goal = r.2 })

    no-greater : (q : Span) → IsMember a s (one q) → q.start ≡ start → q.end ≤ position
    no-greater q m e = elim (cases_lt position q.end) [ inl lt ↦ absurd (no-later q m e lt) | inr ge ↦ ge ]

    until-early : start < position → IsMember a s (one (record { start = start; end = position }))
    until-early lt =
        let prefix = word_over (open_at start) 1 k.prefix in
        let w = prefix ++ k.can.word in
        let bytes : bytes_of w ≡ s = bytes-append prefix k.can.word ∙ rw (over-bytes (open_at start) 1 k.prefix, k.can.bytes) (sym k.parts) in
        let v = member-of w k.can.state bytes (path-on (step_of a) 0 k.state prefix k.can.word k.follows ∙ k.can.ends) k.can.goal in
        let split = over-split v.tuple 1 k.prefix (k.letter ∷ k.back) prefix k.can.word (over-bytes (open_at start) 1 k.prefix) (ap (word_over v.tuple 1) (sym k.parts) ∙ sym v.word_is) in
        let o = opened-member position v.tuple v.member lt (omega (arith, k.position_is, size)) (λ i from to. same-over (mark_of v.tuple) (mark_of (open_at start)) 1 k.prefix split.0 i from (omega (arith, to, k.position_is))) in
        let e : o.0 ≡ position = omega (arith, o.2, no-greater (record { start = start; end = o.0 }) o.1 refl) in
        subst (λ n. IsMember a s (one (record { start = start; end = n }))) e o.1

    pub until-end : IsLastEnd a s start position
    until-end = record {
      member = elim (cases_lt start position) [ inl lt ↦ until-early lt | inr ge ↦ this-one position (omega (arith, ge, bounds.1, h.start_is, no-greater h.span h.member h.start_is)) ];
      last = no-greater;
    }
