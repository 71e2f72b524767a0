-- The words of tuples, and the next marked text after a given one.
use Rattle.span_enum.proofs.Base.{AreSpans, CanRun, DeterministicAutomaton, IsAfter, IsFirst, IsGreatestMark, IsNext, IsNoMark, IsUnmarked, List, Marked, None, NoneAfter, OneLetter, Parts, Precedes, Some, Tuple, [], ap, append_cancel_left}
use Rattle.span_enum.proofs.Base.{arith, blanks, bytes-append, bytes-plain, bytes_of, cases_eq, count-more, cut, cut-start, height_limit, inl, inr, length, length-bytes, looks_limit, mark_count, mark_count-append, mark_of, marks-append}
use Rattle.span_enum.proofs.Base.{marks_in, max, member, mul-add, mul-le-mul_left, mul-le-mul_right, mul_assoc, one-letter, path-dead, path-on, path-one, path-parts, plain, precedes-append, precedes-prefix, precedes-split, reached, refl}
use Rattle.span_enum.proofs.Base.{same-state, step_of, subst, suc, sym, take, take_at, true, word-append, word-plain, word_from, word_over, write-append, write-next, write-zeros, write_marks, write_word, ℕ, ◌*◌, ◌++◌, ◌+◌, ◌<◌, ◌∙◌, ◌∷◌}
use Rattle.span_enum.proofs.Base.{◌≡◌, ◌≤◌, ◌⊎◌}
use Rattle.span_enum.proofs.Runs.{run-behind}

-- ---- tuples written mark by mark, and the words of tuples
length-marks : (w : Marked) → length (marks_in w) ≡ length w
length-marks [] = refl
length-marks (x ∷ w) = omega (arith, length-marks w)

pub write_word-append : (p : ℕ) (w v : Marked) (t : Tuple) → write_word p (w ++ v) t ≡ write_word (p + length w) v (write_word p w t)
write_word-append p w v t =
    ap (λ ms. write_marks p ms t) (marks-append w v) ∙ write-append p (marks_in w) (marks_in v) t
    ∙ ap (λ n. write_marks (p + n) (marks_in v) (write_word p w t)) (length-marks w)

-- the bounds before the end of a text
write-over : (t : Tuple) (p : ℕ) (s : List ℕ) → AreSpans t → write_word p (word_over t p s) (cut p t) ≡ cut (p + length s) t
write-over t p [] h = ap (λ n. cut n t) (omega arith)
write-over t p (b ∷ s) h = ap (write_word (suc p) (word_over t (suc p) s)) (write-next t p h) ∙ write-over t (suc p) s h ∙ ap (λ n. cut n t) (omega arith)

pub read-cut : (t : Tuple) (s : List ℕ) → AreSpans t → write_word 1 (word_over t 1 s) (blanks (length t)) ≡ cut (length s + 1) t
read-cut t s h = ap (write_word 1 (word_over t 1 s)) (sym (cut-start t h)) ∙ write-over t 1 s h ∙ ap (λ n. cut n t) (omega arith)

-- ---- the letters of a text with the marks of a tuple
pub over-append : (t : Tuple) (p : ℕ) (s u : List ℕ) → word_over t p (s ++ u) ≡ word_over t p s ++ word_over t (p + length s) u
over-append t p s u = word-append (mark_of t) p s u

pub over-bytes : (t : Tuple) (p : ℕ) (s : List ℕ) → bytes_of (word_over t p s) ≡ s
over-bytes t p [] = refl
over-bytes t p (b ∷ s) = ap (λ x. b ∷ x) (over-bytes t (suc p) s)

pub over-length : (t : Tuple) (p : ℕ) (s : List ℕ) → length (word_over t p s) ≡ length s
over-length t p s = sym (length-bytes (word_over t p s)) ∙ ap length (over-bytes t p s)

pub word-zero : (p : ℕ) (s : List ℕ) → word_from (λ q. 0) p s ≡ plain s
word-zero p [] = refl
word-zero p (b ∷ s) = ap (λ w. (0, b) ∷ w) (word-zero (suc p) s)

pub over-plain : (t : Tuple) (p : ℕ) (s : List ℕ) → IsUnmarked t p (p + length s) → word_over t p s ≡ plain s
over-plain t p s none = word-plain (mark_of t) p s none ∙ word-zero p s

-- letters without marks write nothing
pub write-bare : (w : Marked) (s : List ℕ) (t : Tuple) → write_word 1 (w ++ plain s) t ≡ write_word 1 w t
write-bare w s t = write_word-append 1 w (plain s) t ∙ ap (λ v. write_word (1 + length w) v (write_word 1 w t)) (sym (word-zero (1 + length w) s)) ∙ write-zeros (1 + length w) s (write_word 1 w t)

pub over-count : (t : Tuple) (p : ℕ) (s : List ℕ) (q : ℕ) → p ≤ q → q < p + length s → 0 < mark_of t q → 0 < mark_count (word_over t p s)
over-count t p [] q from to some = absurd (omega arith)
over-count t p (b ∷ s) q from to some = elim (cases_eq p q) [
  | inl same ↦ omega (arith, count-more (mark_of t p) b (word_over t (suc p) s) (rw same some))
  | inr other ↦ omega (arith, over-count t (suc p) s q (omega arith) (omega arith) some)
]

-- the run over two joined texts goes over the second from where the first leads
pub over-run : (a : DeterministicAutomaton) (p at q : ℕ) (t : Tuple) (s u : List ℕ) → reached a p (word_over t at s) ≡ Some q
    → reached a p (word_over t at (s ++ u)) ≡ reached a q (word_over t (at + length s) u)
over-run a p at q t s u e = ap (reached a p) (over-append t at s u) ∙ path-on (step_of a) p q (word_over t at s) (word_over t (at + length s) u) e

pub over-dead : (a : DeterministicAutomaton) (p at : ℕ) (t : Tuple) (s u : List ℕ) → reached a p (word_over t at s) ≡ None → reached a p (word_over t at (s ++ u)) ≡ None
over-dead a p at t s u e = ap (reached a p) (over-append t at s u) ∙ path-dead (step_of a) p (word_over t at s) (word_over t (at + length s) u) e

-- ---- words cut at the same place
pub append-same : {X : Type 0} (a b c d : List X) → length a ≡ length c → a ++ b ≡ c ++ d → (a ≡ c) × (b ≡ d)
append-same a b c d len e =
    let prefix : a ≡ c = sym (take_at a b (length a) refl) ∙ ap (take (length a)) e ∙ take_at c d (length a) (sym len) in
    (prefix, append_cancel_left a b d (e ∙ ap (λ x. x ++ d) (sym prefix)))

-- a tuple whose word over two joined texts is cut between them
pub over-split : (t : Tuple) (p : ℕ) (s u : List ℕ) (w v : Marked) → bytes_of w ≡ s → word_over t p (s ++ u) ≡ w ++ v → (word_over t p s ≡ w) × (word_over t (p + length s) u ≡ v)
over-split t p s u w v e h =
    append-same (word_over t p s) (word_over t (p + length s) u) w v (over-length t p s ∙ ap length (sym e) ∙ length-bytes w) (sym (over-append t p s u) ∙ h)

pub letter-same : (m n b : ℕ) (w v : Marked) → ◌≡◌ {A = Marked} ((m, b) ∷ w) ((n, b) ∷ v) → (m ≡ n) × (w ≡ v)
letter-same m n b w v e =
    let head : ◌≡◌ {A = ℕ × ℕ} (m, b) (n, b) = cc in
    let tail : w ≡ v = cc in
    (ap (λ z. z.0) head, tail)

-- ---- looks
-- two table lookups at the children, and the table lookups below them
pub lower-cost : (t : Tuple) (at h hl hr before now mid after : ℕ) (s u : List ℕ) → h ≡ max hl hr + 1 → now ≡ before + 2 → 0 < mark_count (word_over t at (s ++ u))
    → mid ≤ now + 2 * (hl * mark_count (word_over t at s)) → after ≤ mid + 2 * (hr * mark_count (word_over t (at + length s) u))
    → after ≤ before + 2 * (h * mark_count (word_over t at (s ++ u)))
lower-cost t at h hl hr before now mid after s u eh en pos l r =
    let c = mark_count (word_over t at s) in
    let d = mark_count (word_over t (at + length s) u) in
    let e : mark_count (word_over t at (s ++ u)) ≡ c + d = ap mark_count (over-append t at s u) ∙ mark_count-append (word_over t at s) (word_over t (at + length s) u) in
    let x : (hl + 1) * c ≤ h * c = mul-le-mul_right c (omega (arith, eh)) in
    let y : (hr + 1) * d ≤ h * d = mul-le-mul_right d (omega (arith, eh)) in
    let z : h * mark_count (word_over t at (s ++ u)) ≡ h * c + h * d = ap (λ n. h * n) e ∙ mul-add h c d in
    omega (arith, e, pos, x, y, z, l, r, en)

-- two table lookups at each level of a tree for each mark, and at those of one more path
pub looks-within : (k n h c before after : ℕ) → h ≤ height_limit n → c ≤ 2 * k → after ≤ before + 1 + 2 * (h * c) + 2 * h → after ≤ before + looks_limit k n
looks-within k n h c before after high few le =
    let x : h * c ≤ height_limit n * c = mul-le-mul_right c high in
    let y : height_limit n * c ≤ height_limit n * (2 * k) = mul-le-mul_left (height_limit n) few in
    omega (arith, le, x, y, high, mul_assoc 4 (2 * k + 1) (height_limit n + 3))

-- ---- the next marked text, by the parts of a text
-- nothing comes after a text without marks
precedes-plain : (s : List ℕ) (v : Marked) → Precedes (plain s) v → ⊥
precedes-plain [] v h = h
precedes-plain (b ∷ s) [] h = h
precedes-plain (b ∷ s) (y ∷ v) (inl lt) = omega (arith, lt)
precedes-plain (b ∷ s) (y ∷ v) (inr e) = precedes-plain s v e.1

pub none-plain : (a : DeterministicAutomaton) (p : ℕ) (s : List ℕ) (goals : ℕ) → NoneAfter a p s goals (plain s)
none-plain a p s goals v r h = precedes-plain s v h.after

-- ---- one letter
byte-after : (a : DeterministicAutomaton) (p b goals old : ℕ) (v : Marked) (r : ℕ) → IsAfter a p (b ∷ []) goals ((old, b) ∷ []) v r
    → (k : OneLetter (step_of a) p b v r) × (k.mark < old)
byte-after a p b goals old v r h =
    let one = one-letter (step_of a) p b r v h.bytes h.ends in
    (one, elim (rw one.word at h.after) [ inl lt ↦ lt | inr z ↦ absurd z.1 ])

pub none-byte : (a : DeterministicAutomaton) (p b goals old : ℕ) → ((m : ℕ) → IsNoMark a p b goals old m) → NoneAfter a p (b ∷ []) goals ((old, b) ∷ [])
none-byte a p b goals old none v r h = let one = byte-after a p b goals old v r h in none one.0.mark one.1 r one.0.step h.goal

pub IsNext-byte : (a : DeterministicAutomaton) (p b goals old m q : ℕ) → IsGreatestMark a p b goals old m q → IsNext a p (b ∷ []) goals ((old, b) ∷ []) ((m, b) ∷ []) q
IsNext-byte a p b goals old m q best = record {
  is_after = record { bytes = refl; ends = path-one (step_of a) p m b ∙ best.step; goal = best.goal; after = inl best.below };
  least = λ v r h.
      let one = byte-after a p b goals old v r h in
      let within : one.0.mark ≤ m = best.most one.0.mark r one.1 one.0.step h.goal in
      elim (cases_eq one.0.mark m) [ inl e ↦ inl (one.0.word ∙ ap (λ n. (n, b) ∷ []) e) | inr ne ↦ inr (rw one.0.word (inl (omega arith))) ];
}

-- ---- two joined texts
module _ (a : DeterministicAutomaton) (s u : List ℕ) (p goals : ℕ) (w1 w2 : Marked) (e1 : bytes_of w1 ≡ s) where
  -- a text after two joined ones: the first parts decide, or they are equal
  record ComesAfter (v : Marked) (r : ℕ) : Type 0 where
    parts : Parts (step_of a) p s u v r
    onward : CanRun a parts.middle u goals
    cases : Precedes w1 parts.left ⊎ ((w1 ≡ parts.left) × IsAfter a parts.middle u goals w2 parts.right r)

  comes-after : (v : Marked) (r : ℕ) → IsAfter a p (s ++ u) goals (w1 ++ w2) v r → ComesAfter v r
  comes-after v r h =
      let k = path-parts (step_of a) p s u v r h.bytes h.ends in
      record {
        parts = k;
        onward = run-behind a p s u v r goals k h.goal;
        cases = elim (precedes-split w1 k.left w2 k.right (e1 ∙ sym k.left_bytes) (subst (λ x. Precedes (w1 ++ w2) x) k.joined h.after)) [
          | inl before ↦ inl before
          | inr rest ↦ inr (rest.0, record { bytes = k.right_bytes; ends = k.right_ends; goal = h.goal; after = rest.1 })
        ];
      }

  -- the first part stays, and the second becomes the next
  pub IsNext-prefix : (q r : ℕ) (v2 : Marked) → reached a p w1 ≡ Some q → IsNext a q u goals w2 v2 r → IsNext a p (s ++ u) goals (w1 ++ w2) (w1 ++ v2) r
  IsNext-prefix q r v2 run l = record {
    is_after = record {
      bytes = bytes-append w1 v2 ∙ rw (e1, l.is_after.bytes) refl;
      ends = path-on (step_of a) p q w1 v2 run ∙ l.is_after.ends;
      goal = l.is_after.goal;
      after = precedes-prefix w1 w2 v2 l.is_after.after;
    };
    least = λ x n h.
        let c = comes-after x n h in
        let k = c.parts in
        elim c.cases [
          | inl before ↦ inr (rw k.joined (precedes-append w1 k.left v2 k.right before))
          | inr rest ↦
              let mid : k.middle ≡ q = same-state k.middle q (reached a p w1) (ap (reached a p) rest.0 ∙ k.left_ends) run in
              elim (l.least k.right n (subst (λ z. IsAfter a z u goals w2 k.right n) mid rest.1)) [
                | inl same ↦ inl (k.joined ∙ rw (← rest.0, same) refl)
                | inr before ↦ inr (rw (k.joined, ← rest.0) (precedes-prefix w1 v2 k.right before))
              ]
        ];
  }

  module _ (between : ℕ) (reach : (n : ℕ) (x : Marked) → bytes_of x ≡ s → reached a p x ≡ Some n → CanRun a n u goals → member between n ≡ true)
      (none : (q : ℕ) → reached a p w1 ≡ Some q → NoneAfter a q u goals w2) where
    into : (v : Marked) (r : ℕ) → (c : ComesAfter v r) → Precedes w1 c.parts.left → IsAfter a p s between w1 c.parts.left c.parts.middle
    into v r c before =
        let k = c.parts in
        record { bytes = k.left_bytes; ends = k.left_ends; goal = reach k.middle k.left k.left_bytes k.left_ends c.onward; after = before }

    stays : (v : Marked) (r : ℕ) → (c : ComesAfter v r) → w1 ≡ c.parts.left → IsAfter a c.parts.middle u goals w2 c.parts.right r → ⊥
    stays v r c same after = none c.parts.middle (ap (reached a p) same ∙ c.parts.left_ends) c.parts.right r after

    pub none-fork : NoneAfter a p s between w1 → NoneAfter a p (s ++ u) goals (w1 ++ w2)
    none-fork left v r h =
        let c = comes-after v r h in
        elim c.cases [ inl before ↦ left c.parts.left c.parts.middle (into v r c before) | inr rest ↦ stays v r c rest.0 rest.1 ]

    -- nothing comes after the second part, so the first one becomes the next, and the first text of the rest follows
    pub IsNext-fork : (q r : ℕ) (v1 v2 : Marked) → IsNext a p s between w1 v1 q → IsFirst a q u goals v2 r → IsNext a p (s ++ u) goals (w1 ++ w2) (v1 ++ v2) r
    IsNext-fork q r v1 v2 l f = record {
      is_after = record {
        bytes = bytes-append v1 v2 ∙ rw (l.is_after.bytes, f.bytes) refl;
        ends = path-on (step_of a) p q v1 v2 l.is_after.ends ∙ f.ends;
        goal = f.goal;
        after = precedes-append w1 v1 w2 v2 l.is_after.after;
      };
      least = λ x n h.
          let c = comes-after x n h in
          let k = c.parts in
          elim c.cases [
            | inr rest ↦ absurd (stays x n c rest.0 rest.1)
            | inl before ↦ elim (l.least k.left k.middle (into x n c before)) [
              | inr less ↦ inr (rw k.joined (precedes-append v1 k.left v2 k.right less))
              | inl same ↦
                  let mid : k.middle ≡ q = same-state k.middle q (reached a p v1) (ap (reached a p) (sym same) ∙ k.left_ends) l.is_after.ends in
                  elim (f.least k.right n k.right_bytes (subst (λ z. reached a z k.right ≡ Some n) mid k.right_ends) h.goal) [
                    | inl same' ↦ inl (k.joined ∙ rw (same, same') refl)
                    | inr less ↦ inr (rw (k.joined, same) (precedes-prefix v1 v2 k.right less))
                  ]
            ]
          ];
    }

-- letters without marks can't be lowered
pub none-passed : (a : DeterministicAutomaton) (p : ℕ) (s u : List ℕ) (goals : ℕ) (w : Marked)
    → ((q : ℕ) → reached a p (plain s) ≡ Some q → NoneAfter a q u goals w) → NoneAfter a p (s ++ u) goals (plain s ++ w)
none-passed a p s u goals w right v r h =
    let c = comes-after a s u p goals (plain s) w (bytes-plain s) v r h in
    elim c.cases [
      | inl before ↦ precedes-plain s c.parts.left before
      | inr rest ↦ right c.parts.middle (ap (reached a p) rest.0 ∙ c.parts.left_ends) c.parts.right r rest.1
    ]
