-- The law, from its two halves.
use Rattle.std.proofs.Common.{◌≡◌, ℕ, zero, suc, ◌+◌, ◌<◌, refl, sym, ap, subst, ◌∙◌, arith, List, [], ◌∷◌, length, map, slice_get}
use Rattle.span_types.specs.FormulaTree.{FormulaTree, Fun}
use Rattle.span_types.specs.Marks.{Spans, mark, LiesIn}
use Rattle.span_types.specs.Fits.{ByteIn, Fits}
use Rattle.formula_law.specs.Positions.{IsEnd}
use Rattle.span_types.specs.Words.{word_from}
use Rattle.formula_law.specs.Accepts.{MarkedText, marked_by, Accepts}
use Rattle.formula_law.specs.Law.{IsAnswerText, VarsBelow, AcceptsAnswers}
use Rattle.span_types.proofs.Sums.{IsInside}
use Rattle.formula_law.proofs.Enters.{Runs}
use Rattle.formula_law.proofs.Compose.{compose}
use Rattle.formula_law.proofs.Decompose.{decompose}
use Rattle.formula_law.proofs.Fault.{plain, stars_plain}
use Rattle.formula_law.proofs.Words.{Words}
use Rattle.formula_law.proofs.FitsWords.{Found, fits_words, words_fits}
use Rattle.formula_law.proofs.Texts.{mark_of, marks_of, Left, agrees_own, agrees_marked, marked_pairs, last_mark, past_mark, accepts_runs, runs_accepts}

whole_left : (s : List ℕ) → Left s 0 s
whole_left s k = let e : 0 + k ≡ k = omega arith in ap (λ n. slice_get s n) e

marks_at : (w : MarkedText) (k : ℕ) → marks_of w (1 + k) ≡ mark_of w.pairs w.last k
marks_at w k = let e : 1 + k ≡ suc k = omega arith in ap (marks_of w) e

marks_inside : (w : MarkedText) → IsInside 1 (suc (length (map (λ c. c.1) w.pairs))) (marks_of w)
marks_inside w = record { below = low; above = high }
  where
    low : (p : ℕ) → p < 1 → marks_of w p ≡ 0
    low zero lt = refl
    low (suc p) lt = absurd (omega arith)

    high : (p : ℕ) → suc (length (map (λ c. c.1) w.pairs)) < p → marks_of w p ≡ 0
    high zero lt = absurd (omega arith)
    high (suc p) lt = past_mark w.last p w.pairs (omega arith)

own_text : (w : MarkedText) → w ≡ marked_by (marks_of w) (map (λ c. c.1) w.pairs)
own_text w =
    let e = sym (marked_pairs (marks_of w) w.last 1 w.pairs (marks_at w)) in
    let g = sym (last_mark w.last w.pairs) in
    λ i. record { pairs = e i; last = g i }

-- the spans that an accepted marked text gives, with its marks
pub answer_of : (f : FormulaTree) (k : ℕ) (w : MarkedText) → Fun f → VarsBelow k f → Accepts f w → Found (map (λ c. c.1) w.pairs) k f 1 (suc (length (map (λ c. c.1) w.pairs))) (marks_of w)
answer_of f k w fun below h =
    let s = map (λ c. c.1) w.pairs in
    let u = marks_of w in
    let n = length s in
    let agrees = agrees_own u s w.last 0 w.pairs (marks_at w) (whole_left s) in
    let E : ℕ → Type 0 = λ m. IsEnd f h.state m in
    let runs = accepts_runs f s u w.pairs h.state agrees h.reaches (subst E (sym (last_mark w.last w.pairs)) h.ends) in
    let words = decompose (ByteIn s) f 1 1 (suc n) u (stars_plain f (plain f fun)) (marks_inside w) runs in
    words_fits s k f 1 (suc n) u (plain f fun) below words

to_answer : (f : FormulaTree) (k : ℕ) (w : MarkedText) → Fun f → VarsBelow k f → Accepts f w → IsAnswerText f k (map (λ c. c.1) w.pairs) w
to_answer f k w fun below h =
    let found = answer_of f k w fun below h in
    let s = map (λ c. c.1) w.pairs in
    let e : suc (length s) ≡ length s + 1 = omega arith in
    let F : ℕ → Type 0 = λ m. Fits f s 1 m found.spans in
    let L : ℕ → Type 0 = λ m. LiesIn 1 m found.spans in
    let same : marks_of w ≡ mark k found.spans = λ i p. found.marks p i in
    record {
      spans = found.spans;
      fits = subst F e (found.within, found.fits);
      lies = subst L e found.lies;
      marks = own_text w ∙ ap (λ x. marked_by x s) same;
    }

pub bytes_back : (u : ℕ → ℕ) (p : ℕ) (s : List ℕ) → map (λ c. c.1) (word_from u p s) ≡ s
bytes_back u p [] = refl
bytes_back u p (b ∷ s) = ap (λ r. b ∷ r) (bytes_back u (suc p) s)

accepts_marked : (f : FormulaTree) (u : ℕ → ℕ) (s : List ℕ) → Runs (ByteIn s) f 1 1 (suc (length s)) u → Accepts f (marked_by u s)
accepts_marked f u s h =
    let w = word_from u 1 s in
    let e : length (map (λ c. c.1) w) ≡ length s = ap length (bytes_back u 1 s) in
    let R : ℕ → Type 0 = λ n. Runs (ByteIn s) f 1 1 (suc n) u in
    let t = runs_accepts f s u w (agrees_marked u s 0 s (whole_left s)) (subst R (sym e) h) in
    let E : ℕ → Type 0 = λ n. IsEnd f t.state (u (suc n)) in
    record { state = t.state; reaches = t.reaches; ends = subst E e t.ends }

-- spans that fit have words of the formula as their marks
words_of : (f : FormulaTree) (k : ℕ) (s : List ℕ) (t : Spans) → Fun f → VarsBelow k f → Fits f s 1 (length s + 1) t → Words (ByteIn s) f 1 (suc (length s)) (mark k t)
words_of f k s t fun below h =
    let e : length s + 1 ≡ suc (length s) = omega arith in
    let F : ℕ → Type 0 = λ m. Fits f s 1 m t in
    let g : Fits f s 1 (suc (length s)) t = subst F e h in
    fits_words s k f 1 (suc (length s)) t (plain f fun) below g.0 g.1

pub fits-accepts : (f : FormulaTree) (k : ℕ) (s : List ℕ) (t : Spans) → Fun f → VarsBelow k f → Fits f s 1 (length s + 1) t → Accepts f (marked_by (mark k t) s)
fits-accepts f k s t fun below h =
    let u = mark k t in
    accepts_marked f u s (compose (ByteIn s) f 1 1 (suc (length s)) u (words_of f k s t fun below h))

-- spans that fit lie in the text, as the spans that their marks give do
pub fits-found : (f : FormulaTree) (k : ℕ) (s : List ℕ) (t : Spans) → Fun f → VarsBelow k f → Fits f s 1 (length s + 1) t → Found s k f 1 (suc (length s)) (mark k t)
fits-found f k s t fun below h = words_fits s k f 1 (suc (length s)) (mark k t) (plain f fun) below (words_of f k s t fun below h)

to_accept : (f : FormulaTree) (k : ℕ) (s : List ℕ) (w : MarkedText) → Fun f → VarsBelow k f → IsAnswerText f k s w → Accepts f w
to_accept f k s w fun below h = subst (Accepts f) (sym h.marks) (fits-accepts f k s h.spans fun below h.fits)

pub law : AcceptsAnswers
law f k s w fun below e =
    (λ h. (let I : List ℕ → Type 0 = λ x. IsAnswerText f k x w in subst I e (to_answer f k w fun below h)), to_accept f k s w fun below)
