-- The answer at an index, and the table lookups that find it.
use Rattle.std.proofs.Common.{◌≡◌, ℕ, ◌+◌, ◌-◌, ◌*◌, ◌<◌, ◌≤◌, false, List, [], ◌∷◌, ◌++◌, length, get_or, max, refl, ap, sym, subst, ◌∙◌, arith, Some, None}
use Rattle.std.specs.Prelude.{slice_get}
use Rattle.std.proofs.lemmas.List.{length-map}
use Rattle.std.proofs.lemmas.Option.{slice_get-get_or, slice_get_past}
use Rattle.std.proofs.Math.Nat.{mul-le-mul_left, mul-le-mul_right, mul_assoc}
use Rattle.span_types.specs.Fibonacci.{height_limit, looks_limit}
use Rattle.span_types.specs.Marks.{spans_of}
use Rattle.span_types.specs.Words.{Marked, ended, marked, mark_count}
use Rattle.span_types.specs.Writes.{blanks, write_mark}
use Rattle.span_types.proofs.PieceLaws.{write-plain}
use Rattle.span_types.proofs.WordLaws.{marks-few, reads}
use Rattle.formula_law.specs.Law.{bytes_of}
use Rattle.marker_dfa.specs.Deterministic.{DeterministicAutomaton, IsDeterministic, states_of, next_of, marks_of, ends_of}
use Rattle.state_tables.specs.Meaning.{plain}
use Rattle.state_tables.proofs.Paths.{length-bytes, mark_count-append}
use Rattle.span_enum.specs.Members.{Tuple}
use Rattle.span_enum.specs.Tuples.{write_word}
use Rattle.span_enum.proofs.Exists.{answers-exist}
use Rattle.span_enum.proofs.Words.{word-zero, write_word-append}
use Rattle.path_counts.specs.Paths.{most, stopped}
use Rattle.path_counts.specs.Counting.{CountRow, IsCountTable}
use Rattle.path_counts.specs.Runs.{runs}
use Rattle.count_tables.specs.Number.{endings}
use Rattle.count_tables.specs.TextIndex.{AreWays, IsNth, IsTextAt, number_over}
use Rattle.count_tables.proofs.Numbers.{answers-words, endings_at, is-tuple}
use Rattle.count_tables.proofs.Places.{get-map, get-member, map-get, over-runs}
use Rattle.std.proofs.Common.{All}
use Rattle.std.proofs.lemmas.List.Elements.{All-nil}

-- ---- tuples written mark by mark
pub write-none : (p : ℕ) (s : List ℕ) (t : Tuple) → write_word p (plain s) t ≡ t
write-none p s t = ap (λ w. write_word p w t) (sym (word-zero p s)) ∙ write-plain p s t

-- ---- table lookups
-- two at each level of a tree for each mark, and one more
pub looks-within : (k n h c before later : ℕ) → h ≤ height_limit n → c ≤ 2 * k → later ≤ before + 1 + 2 * (h * c) → later ≤ before + looks_limit k n
looks-within k n h c before later high few le =
    let x : h * c ≤ height_limit n * c = mul-le-mul_right c high in
    let y : height_limit n * c ≤ height_limit n * (2 * k) = mul-le-mul_left (height_limit n) few in
    omega (arith, le, x, y, mul_assoc 4 (2 * k + 1) (height_limit n + 3))

-- two at a pair whose text has a mark, and those below it
pub pair-cost : (h hl hr before now mid later : ℕ) (w v : Marked) → h ≡ max hl hr + 1 → now ≡ before + 2 → 0 < mark_count (w ++ v) → mid ≤ now + 2 * (hl * mark_count w) → later ≤ mid + 2 * (hr * mark_count v)
    → later ≤ before + 2 * (h * mark_count (w ++ v))
pair-cost h hl hr before now mid later w v eh en some l r =
    let c = mark_count w in
    let d = mark_count v in
    let e : mark_count (w ++ v) ≡ c + d = mark_count-append w v in
    let x : (hl + 1) * c ≤ h * c = mul-le-mul_right c (omega (arith, eh)) in
    let y : (hr + 1) * d ≤ h * d = mul-le-mul_right d (omega (arith, eh)) in
    let z : h * mark_count (w ++ v) ≡ h * c + h * d = ap (λ n. h * n) e ∙ spread h c d in
    omega (arith, e, some, x, y, z, l, r, en)
  where
    spread : (i j k : ℕ) → i * (j + k) ≡ i * j + i * k
    spread i j k = omega arith

-- room for a level, and for those below it
pub room-left : (n h hl hr room : ℕ) → h ≡ max hl hr + 1 → n * h ≤ room → (n ≤ room) × (n * hl + n ≤ room) × (n * hr ≤ room)
room-left n h hl hr room eh le =
    let x : n * (hl + 1) ≤ n * h = mul-le-mul_left n (omega (arith, eh)) in
    let y : n * (hr + 1) ≤ n * h = mul-le-mul_left n (omega (arith, eh)) in
    (omega (arith, x, le), omega (arith, x, le), omega (arith, y, le))

-- ---- the answer at an index
module _ (a : DeterministicAutomaton) (auto : IsDeterministic a) (s : List ℕ) (short : length s ≤ 281474976710656) (bytes : All (λ b. b < 256) s) where
  -- w is its word over the text, and m its mark at the end
  module _ (i m : ℕ) (w : Marked) (over : bytes_of w ≡ s) (at : slice_get (runs (next_of a) (marks_of a) false (endings_at a) s 0) i ≡ Some (w ++ (m, 256) ∷ [])) where
    pub record IsAnswerAt : Type 0 where
      pub tuple : Tuple
      pub size : length tuple ≡ a.variables
      pub word : marked s tuple ≡ w ++ (m, 256) ∷ []
      pub written : write_mark m (length s + 1) (write_word 1 w (blanks a.variables)) ≡ tuple
      pub nth : IsNth a s (i + 1) (Some tuple)

    pub answer-at : IsAnswerAt
    answer-at =
        let ts = answers-exist a auto s bytes short in
        let found = get-map (marked s) ts.0 i (w ++ (m, 256) ∷ []) (ap (λ ws. slice_get ws i) (answers-words a auto s short ts.0 ts.1) ∙ at) in
        let t = found.0 in
        let member = (ts.1.members t).0 (get-member ts.0 i t found.1.0) in
        let index : 1 + length w ≡ length s + 1 = omega (arith, length-bytes w, ap length over) in
        let back : i + 1 - 1 ≡ i = omega arith in
        record {
          tuple = t;
          size = member.size;
          word = found.1.1;
          written =
              ap (λ n. write_mark m n (write_word 1 w (blanks a.variables))) (sym index)
              ∙ sym (write_word-append 1 w ((m, 256) ∷ []) (blanks a.variables))
              ∙ ap (λ v. write_word 1 v (blanks a.variables)) (sym found.1.1)
              ∙ ap (λ n. write_word 1 (marked s t) (blanks n)) (sym member.size)
              ∙ reads s t (is-tuple a auto s short t member) member.lies;
          nth = record { answers = ts.0; all = ts.1; at_position = sym (ap (λ n. slice_get ts.0 n) back ∙ found.1.0) };
        }

  -- one table lookup at the root, and those that find its marks
  pub root-cost : (i m h before later : ℕ) (w : Marked) (over : bytes_of w ≡ s) (at : slice_get (runs (next_of a) (marks_of a) false (endings_at a) s 0) i ≡ Some (w ++ (m, 256) ∷ [])) → h ≤ height_limit (length s)
      → later ≤ before + 1 + 2 * (h * mark_count w) → later ≤ before + looks_limit a.variables (length s)
  root-cost i m h before later w over at high le =
      let t = answer-at i m w over at in
      let few : mark_count (marked s t.tuple) ≤ 2 * length t.tuple = marks-few (length t.tuple) (spans_of t.tuple) 1 (ended s) in
      looks-within a.variables (length s) h (mark_count w) before later high (omega (arith, few, t.size, ap mark_count t.word, mark_count-append w ((m, 256) ∷ []))) le

  -- the marks at the end
  pub end-ways : (after : List ℕ) → ((q : ℕ) → q < states_of a → get_or after q 0 ≡ stopped (endings a q)) → AreWays (states_of a) (endings_at a) after
  end-ways after are q lt = are q lt ∙ ap stopped (sym (length-map (ends_of a q) (λ m. (m, 256) ∷ [])))

  pub ended-index : (after : List ℕ) (i q j : ℕ) (w : Marked) → ((q : ℕ) → q < states_of a → get_or after q 0 ≡ stopped (endings a q)) → j < endings a q → IsTextAt a s 0 after i w q j
      → slice_get (runs (next_of a) (marks_of a) false (endings_at a) s 0) i ≡ Some (w ++ (get_or (ends_of a q) j 0, 256) ∷ [])
  ended-index after i q j w are lt index =
      index.at_index (endings_at a) (end-ways after are) ((get_or (ends_of a q) j 0, 256) ∷ []) (map-get (λ m. (m, 256) ∷ []) (ends_of a q) j (get_or (ends_of a q) j 0) (slice_get-get_or (ends_of a q) j 0 lt))

  -- no answer is there
  pub none-at : (n i : ℕ) → n ≡ stopped (length (runs (next_of a) (marks_of a) false (endings_at a) s 0)) → n ≤ i → i < most → IsNth a s (i + 1) None
  none-at n i e past low =
      let ts = answers-exist a auto s bytes short in
      let long : length ts.0 ≡ length (runs (next_of a) (marks_of a) false (endings_at a) s 0) = sym (length-map ts.0 (marked s)) ∙ ap length (answers-words a auto s short ts.0 ts.1) in
      let back : i + 1 - 1 ≡ i = omega arith in
      record { answers = ts.0; all = ts.1; at_position = sym (ap (λ n. slice_get ts.0 n) back ∙ slice_get_past ts.0 i (omega (arith, long, e, past, low))) }

  pub none-over : (t : List CountRow) → IsCountTable a s t → (after : List ℕ) (i : ℕ) → ((q : ℕ) → q < states_of a → get_or after q 0 ≡ stopped (endings a q)) → number_over t 0 after ≤ i → i < most → IsNth a s (i + 1) None
  none-over t is after i are past low = none-at (number_over t 0 after) i (over-runs a auto s t is (endings_at a) after (end-ways after are) 0 auto.has_start) past low

-- ---- on the empty text
module _ (a : DeterministicAutomaton) (auto : IsDeterministic a) where
  pub empty-nth : (i : ℕ) (result : Tuple) → i < endings a 0 → result ≡ write_mark (get_or (ends_of a 0) i 0) 1 (blanks a.variables) → IsNth a [] (i + 1) (Some result)
  empty-nth i result lt e =
      let m = get_or (ends_of a 0) i 0 in
      let t = answer-at a auto [] (omega arith) (All-nil (λ b. b < 256)) i m [] refl (map-get (λ n. (n, 256) ∷ []) (ends_of a 0) i m (slice_get-get_or (ends_of a 0) i 0 lt)) in
      subst (λ x. IsNth a [] (i + 1) (Some x)) (sym (e ∙ t.written)) t.nth

  pub empty-none : (i : ℕ) → endings a 0 ≤ i → i < most → IsNth a [] (i + 1) None
  empty-none i past low =
      let long : length (endings_at a 0) ≡ length (ends_of a 0) = length-map (ends_of a 0) (λ m. (m, 256) ∷ []) in
      none-at a auto [] (omega arith) (All-nil (λ b. b < 256)) (stopped (length (endings_at a 0))) i refl (omega (arith, long, past)) low
