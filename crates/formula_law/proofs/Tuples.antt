-- The law for tuples, from that for spans.
use Rattle.std.proofs.Common.{◌≡◌, ℕ, zero, suc, ◌+◌, ◌<◌, ◌≤◌, ◌⊎◌, inl, inr, refl, sym, ap, subst, ◌∙◌, arith, List, [], ◌∷◌, ◌++◌, length, Option, Some, None}
use Rattle.std.proofs.lemmas.Bool.{cases_lt}
use Rattle.span_types.specs.declared.tuple.Span.{Span}
use Rattle.span_types.specs.FormulaTree.{FormulaTree}
use Rattle.span_types.specs.Places.{AreSpans}
use Rattle.span_types.specs.Marks.{Spans, spans_of, part_of, mark, LiesIn, Lies, at_position, opening, closing}
use Rattle.span_types.specs.Marks as marks
use Rattle.span_types.specs.Fits.{IsWithin, Fits}
use Rattle.span_types.specs.Words.{word_from}
use Rattle.span_types.specs.Laws.{MarksDetermine, Pieces}
use Rattle.formula_law.specs.Accepts.{MarkedText, Accepts, marked_by, marked_text}
use Rattle.formula_law.specs.Law.{VarsBelow, IsAnswerText, IsTupleText, AcceptsTuples, FitsAccepted, MarkedWord}
use Rattle.span_types.proofs.Sums.{IsInside, at_other}
use Rattle.formula_law.proofs.Texts.{mark_of, marks_of, past_mark}
use Rattle.formula_law.proofs.FitsWords.{Found}
use Rattle.formula_law.proofs.BothWays.{law, bytes_back, answer_of, fits-accepts, fits-found}

-- the first k spans
abbrev first_spans : ℕ → Spans → List (Option Span)
first_spans zero t = []
first_spans (suc k) t = t 0 ∷ first_spans k (λ v. t (suc v))

length-first_spans : (k : ℕ) (t : Spans) → length (first_spans k t) ≡ k
length-first_spans zero t = refl
length-first_spans (suc k) t = ap suc (length-first_spans k (λ v. t (suc v)))

spans-below : (k : ℕ) (t : Spans) (v : ℕ) → v < k → spans_of (first_spans k t) v ≡ t v
spans-below zero t v lt = absurd (omega arith)
spans-below (suc k) t zero lt = refl
spans-below (suc k) t (suc v) lt = spans-below k (λ x. t (suc x)) v (omega arith)

spans-past : (t : List (Option Span)) (v : ℕ) → length t ≤ v → spans_of t v ≡ None
spans-past [] v le = refl
spans-past (x ∷ t) zero le = absurd (omega arith)
spans-past (x ∷ t) (suc v) le = spans-past t v (omega arith)

none-some : {R : Type 0} (o : Option Span) (q : Span) → o ≡ None → o ≡ Some q → R
none-some o q e g = let bad : None ≡ Some q = sym e ∙ g in absurd (cc)

-- spans that agree below k, and are none from there
same-spans : (k : ℕ) (t u : Spans) → ((v : ℕ) → v < k → t v ≡ u v) → ((v : ℕ) → k ≤ v → t v ≡ None) → ((v : ℕ) → k ≤ v → u v ≡ None) → t ≡ u
same-spans k t u below none gone = λ i v. at v (cases_lt v k) i
  where
    at : (v : ℕ) → (v < k) ⊎ (k ≤ v) → t v ≡ u v
    at v (inl lt) = below v lt
    at v (inr le) = none v le ∙ sym (gone v le)

are-spans : (k n : ℕ) (t : Spans) → n ≤ 281474976710656 → LiesIn 1 (n + 1) t → AreSpans (first_spans k t)
are-spans zero n t le h = tt
are-spans (suc k) n t le h = by (t 0) refl (are-spans k n (λ v. t (suc v)) le (λ v. h (suc v)))
  where
    by : (o : Option Span) → t 0 ≡ o → AreSpans (first_spans k (λ v. t (suc v))) → AreSpans (o ∷ first_spans k (λ v. t (suc v)))
    by None e rest = rest
    by (Some q) e rest = let l = h 0 q e in (record { positive = l.0; ordered = l.1; small = omega (arith, l.2) }, rest)

within-none : (f : FormulaTree) (k : ℕ) (t : Spans) → IsWithin f t → VarsBelow k f → (v : ℕ) → k ≤ v → t v ≡ None
within-none f k t w below v le = w v (below v le)

-- the tuple of spans that fit
to-tuple : (f : FormulaTree) (k : ℕ) (s : List ℕ) (w : MarkedText) → VarsBelow k f → k ≤ 8 → length s ≤ 281474976710656 → IsAnswerText f k s w → IsTupleText f k s w
to-tuple f k s w below few short h =
    let t = first_spans k h.spans in
    let size = length-first_spans k h.spans in
    let same : spans_of t ≡ h.spans = same-spans k (spans_of t) h.spans (spans-below k h.spans) (λ v le. spans-past t v (omega (arith, size, le))) (within-none f k h.spans h.fits.0 below) in
    let marks_same : mark (length t) (spans_of t) ≡ mark k h.spans = ap (λ n. mark n (spans_of t)) size ∙ ap (mark k) same in
    let F : Spans → Type 0 = λ x. Fits f s 1 (length s + 1) x in
    let L : Spans → Type 0 = λ x. LiesIn 1 (length s + 1) x in
    let e : length s + 1 ≡ suc (length s) = omega arith in
    let M : ℕ → Type 0 = λ m. LiesIn 1 m (spans_of t) in
    record {
      tuple = t;
      size = size;
      valid = record { few = omega (arith, size); spans = are-spans k (length s) h.spans short h.lies };
      lies = subst M e (subst L (sym same) h.lies);
      fits = subst F (sym same) h.fits;
      marks = h.marks ∙ ap (λ x. marked_by x s) (sym marks_same);
    }

to-spans : (f : FormulaTree) (k : ℕ) (s : List ℕ) (w : MarkedText) → IsTupleText f k s w → IsAnswerText f k s w
to-spans f k s w h =
    let e : suc (length s) ≡ length s + 1 = omega arith in
    let M : ℕ → Type 0 = λ m. LiesIn 1 m (spans_of h.tuple) in
    record {
      spans = spans_of h.tuple;
      fits = h.fits;
      lies = subst M e h.lies;
      marks = h.marks ∙ ap (λ n. marked_by (mark n (spans_of h.tuple)) s) h.size;
    }

pub accepts-tuples : AcceptsTuples
accepts-tuples f k s w fun below few short e =
    let l = law f k s w fun below e in
    (λ a. to-tuple f k s w below few short (l.0 a), λ h. l.1 (to-spans f k s w h))

-- spans that lie between two positions have no marks elsewhere
part-outside : (i j v p : ℕ) (o : Option Span) → ((q : Span) → o ≡ Some q → (i ≤ q.start) × (q.start ≤ q.end) × (q.end ≤ j)) → (p < i) ⊎ (j < p) → part_of v o p ≡ 0
part-outside i j v p None l out = refl
part-outside i j v p (Some q) l out =
    let h = l q refl in
    let a : at_position q.start (opening v) p ≡ 0 = at_other q.start (opening v) p (λ e. apart out h (omega (arith, h, e))) in
    let b : at_position q.end (closing v) p ≡ 0 = at_other q.end (closing v) p (λ e. apart out h (omega (arith, h, e))) in
    omega (arith, a, b)
  where
    apart : (p < i) ⊎ (j < p) → (i ≤ q.start) × (q.start ≤ q.end) × (q.end ≤ j) → (i ≤ p) × (p ≤ j) → ⊥
    apart (inl lt) h k = omega (arith, k)
    apart (inr lt) h k = omega (arith, k)

mark-outside : (k i j p : ℕ) (t : Spans) → LiesIn i j t → (p < i) ⊎ (j < p) → mark k t p ≡ 0
mark-outside zero i j p t l out = refl
mark-outside (suc k) i j p t l out = omega (arith, mark-outside k i j p t l out, part-outside i j k p (t k) (l k) out)

-- the marks of a marked text are those that it was made with
marks-back : (u : ℕ → ℕ) (p : ℕ) (s : List ℕ) (k : ℕ) → k ≤ length s → mark_of (word_from u p s) (u (p + length s)) k ≡ u (p + k)
marks-back u p [] zero le = refl
marks-back u p [] (suc k) le = absurd (omega arith)
marks-back u p (b ∷ s) zero le = ap u (omega arith)
marks-back u p (b ∷ s) (suc k) le =
    let e : p + suc (length s) ≡ suc p + length s = omega arith in
    let g : suc p + k ≡ p + suc k = omega arith in
    ap (λ n. mark_of (word_from u (suc p) s) (u n) k) e ∙ marks-back u (suc p) s k (omega arith) ∙ ap u g

marks-own : (u : ℕ → ℕ) (s : List ℕ) → IsInside 1 (suc (length s)) u → (p : ℕ) → marks_of (marked_by u s) p ≡ u p
marks-own u s h zero = sym (h.below 0 (omega arith))
marks-own u s h (suc p) = at (cases_lt (length s) p)
  where
    at : (length s < p) ⊎ (p ≤ length s) → mark_of (word_from u 1 s) (u (suc (length s))) p ≡ u (suc p)
    at (inl lt) = past_mark (u (suc (length s))) p (word_from u 1 s) (omega (arith, ap length (bytes_back u 1 s))) ∙ sym (h.above (suc p) (omega arith))
    at (inr le) =
        let e : suc (length s) ≡ 1 + length s = omega arith in
        let g : 1 + p ≡ suc p = omega arith in
        ap (λ n. mark_of (word_from u 1 s) (u n) p) e ∙ marks-back u 1 s p le ∙ ap u g

-- spans with the same marks
same-by-marks : MarksDetermine → (f : FormulaTree) (s : List ℕ) (t : List (Option Span)) (u : Spans) → VarsBelow (length t) f → IsWithin f u → ((p : ℕ) → mark (length t) (spans_of t) p ≡ mark (length t) u p) → spans_of t ≡ u
same-by-marks tells f s t u below w h =
    same-spans (length t) (spans_of t) u (λ v lt. tells.tell (length t) (spans_of t) u h v lt) (spans-past t) (within-none f (length t) u w below)

pub fits-accepted : MarksDetermine → FitsAccepted
fits-accepted tells f s t fun below = (to, from)
  where
    to : Fits f s 1 (length s + 1) (spans_of t) → Lies (length s) t × Accepts f (marked_text s t)
    to h =
        let found = fits-found f (length t) s (spans_of t) fun below h in
        let same = same-by-marks tells f s t found.spans below found.within found.marks in
        let L : Spans → Type 0 = λ x. LiesIn 1 (suc (length s)) x in
        (subst L (sym same) found.lies, fits-accepts f (length t) s (spans_of t) fun below h)

    from : Lies (length s) t × Accepts f (marked_text s t) → Fits f s 1 (length s + 1) (spans_of t)
    from (lies, accepts) =
        let k = length t in
        let u = mark k (spans_of t) in
        let w = marked_text s t in
        let P : List ℕ → Type 0 = λ x. Found x k f 1 (suc (length x)) (marks_of w) in
        let found : Found s k f 1 (suc (length s)) (marks_of w) = subst P (bytes_back u 1 s) (answer_of f k w fun below accepts) in
        let inside : IsInside 1 (suc (length s)) u = record {
          below = λ p lt. mark-outside k 1 (suc (length s)) p (spans_of t) lies (inl lt);
          above = λ p lt. mark-outside k 1 (suc (length s)) p (spans_of t) lies (inr lt);
        } in
        let same = same-by-marks tells f s t found.spans below found.within (λ p. sym (marks-own u s inside p) ∙ found.marks p) in
        let F : Spans → Type 0 = λ x. Fits f s 1 (length s + 1) x in
        let e : suc (length s) ≡ length s + 1 = omega arith in
        let N : ℕ → Type 0 = λ m. Fits f s 1 m found.spans in
        subst F (sym same) (subst N e (found.within, found.fits))

pub marked-word : Pieces → MarkedWord
marked-word pieces s t =
    let e : 1 + length s ≡ suc (length s) = omega arith in
    pieces.word_end (marks.mark_of t) s ∙ ap (λ n. word_from (marks.mark_of t) 1 s ++ (marks.mark_of t n, 256) ∷ []) e
