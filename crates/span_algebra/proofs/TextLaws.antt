-- Marked texts whose marks are renamed.
use Rattle.std.proofs.Common.{◌≡◌, ℕ, zero, suc, ◌+◌, ◌≤◌, Bool, true, false, if◌then◌else◌, List, [], ◌∷◌, ◌++◌, length, map, Option, Some, None, refl, sym, ap, subst, ◌∙◌, arith}
use Rattle.span_types.specs.declared.tuple.Span.{Span}
use Rattle.span_types.specs.Places.{AreSpans}
use Rattle.span_types.specs.Marks.{spans_of, mark_of, Lies}
use Rattle.span_types.specs.Words.{Marked, word_from, marked}
use Rattle.span_types.specs.Rel.{same_name, named}
use Rattle.span_types.proofs.PieceLaws.{word-end}
use Rattle.span_types.proofs.WordLaws.{tells}
use Rattle.formula_law.specs.Accepts.{MarkedText, marked_by, marked_text}
use Rattle.formula_law.specs.Law.{bytes_of}
use Rattle.marker_nfa.specs.Automaton.{IsMarked}
use Rattle.span_algebra.specs.Renaming.{tuple_for, mark_for}
use Rattle.span_algebra.proofs.NameLaws.{length-for}
use Rattle.span_algebra.proofs.MarkLaws.{mark-renamed}

-- the pairs with other marks
abbrev pub remarked : (ℕ → ℕ) → Marked → Marked
remarked f w = map (λ c. (f c.0, c.1)) w

abbrev pub remarked_text : (ℕ → ℕ) → MarkedText → MarkedText
remarked_text f w = record { pairs = remarked f w.pairs; last = f w.last }

remarked-word : (f g : ℕ → ℕ) (p : ℕ) (s : List ℕ) → remarked f (word_from g p s) ≡ word_from (λ q. f (g q)) p s
remarked-word f g p [] = refl
remarked-word f g p (b ∷ s) = ap (λ w. (f (g p), b) ∷ w) (remarked-word f g (suc p) s)

-- the marked text of a tuple, renamed
pub renamed-text : (to from : List (List ℕ)) (s : List ℕ) (t : List (Option Span)) → length t ≡ length from → remarked_text (mark_for to from) (marked_text s t) ≡ marked_text s (tuple_for to from t)
renamed-text to from s t e =
    let w = remarked-word (mark_for to from) (mark_of t) 1 s in
    let g : (λ (q : ℕ). mark_for to from (mark_of t q)) ≡ mark_of (tuple_for to from t) = λ i q. mark-renamed to from t q e i in
    let whole : remarked_text (mark_for to from) (marked_text s t) ≡ marked_by (λ q. mark_for to from (mark_of t q)) s = λ i. record { pairs = w i; last = mark_for to from (mark_of t (suc (length s))) } in
    whole ∙ ap (λ h. marked_by h s) g

pub bytes-remarked : (f : ℕ → ℕ) (w : Marked) → bytes_of (remarked f w) ≡ bytes_of w
bytes-remarked f [] = refl
bytes-remarked f (c ∷ w) = ap (λ s. c.1 ∷ s) (bytes-remarked f w)

pub length-remarked : (f : ℕ → ℕ) (w : Marked) → length (remarked f w) ≡ length w
length-remarked f [] = refl
length-remarked f (c ∷ w) = ap suc (length-remarked f w)

pub bytes-word : (g : ℕ → ℕ) (p : ℕ) (s : List ℕ) → bytes_of (word_from g p s) ≡ s
bytes-word g p [] = refl
bytes-word g p (b ∷ s) = ap (λ l. b ∷ l) (bytes-word g (suc p) s)

pub length-word : (g : ℕ → ℕ) (p : ℕ) (s : List ℕ) → length (word_from g p s) ≡ length s
length-word g p [] = refl
length-word g p (b ∷ s) = ap suc (length-word g (suc p) s)

-- what a tuple gives a name is what it gives some variable
pub named-span : (from : List (List ℕ)) (t : List (Option Span)) (n : List ℕ) (q : Span) → named from t n ≡ Some q → (v : ℕ) × (spans_of t v ≡ Some q)
named-span [] t n q e = let bad : None ≡ Some q = e in absurd (cc)
named-span (m ∷ from) [] n q e = let bad : None ≡ Some q = e in absurd (cc)
named-span (m ∷ from) (x ∷ t) n q e = by (same_name m n) e (λ r. named-span from t n q r)
  where
    by : (b : Bool) → (if b then x else named from t n) ≡ Some q → (named from t n ≡ Some q → (v : ℕ) × (spans_of t v ≡ Some q)) → (v : ℕ) × (spans_of (x ∷ t) v ≡ Some q)
    by true e rest = (0, e)
    by false e rest = let r = rest e in (suc r.0, r.1)

pub lies-for : (k : ℕ) (to from : List (List ℕ)) (t : List (Option Span)) → Lies k t → Lies k (tuple_for to from t)
lies-for k [] from t h v q e = let bad : None ≡ Some q = e in absurd (cc)
lies-for k (n ∷ to) from t h zero q e = let w = named-span from t n q e in h w.0 q w.1
lies-for k (n ∷ to) from t h (suc v) q e = lies-for k to from t h v q e

pub are-spans : (n : ℕ) (t : List (Option Span)) → n ≤ 281474976710656 → Lies n t → AreSpans t
are-spans n [] le h = tt
are-spans n (x ∷ t) le h = by x (h 0) (are-spans n t le (λ v. h (suc v)))
  where
    by : (o : Option Span) → ((q : Span) → o ≡ Some q → (1 ≤ q.start) × (q.start ≤ q.end) × (q.end ≤ suc n)) → AreSpans t → AreSpans (o ∷ t)
    by None l rest = rest
    by (Some q) l rest = let k = l q refl in (record { positive = k.0; ordered = k.1; small = omega (arith, k.2) }, rest)

-- a marked text determines its tuple
pub text-tells : (s : List ℕ) (t u : List (Option Span)) → length s ≤ 281474976710656 → length t ≤ 8 → length t ≡ length u → Lies (length s) t → Lies (length s) u → marked_text s t ≡ marked_text s u → t ≡ u
text-tells s t u short few e lt lu h =
    let one : 1 + length s ≡ suc (length s) = omega arith in
    let words : marked s t ≡ marked s u =
    word-end (mark_of t) s
    ∙ ap (λ n. word_from (mark_of t) 1 s ++ (mark_of t n, 256) ∷ []) one
    ∙ ap (λ (w : MarkedText). w.pairs ++ (w.last, 256) ∷ []) h
    ∙ sym (ap (λ n. word_from (mark_of u) 1 s ++ (mark_of u n, 256) ∷ []) one)
    ∙ sym (word-end (mark_of u) s) in
    tells s t u (record { few = few; spans = are-spans (length s) t short lt }) (record { few = omega (arith, few, e); spans = are-spans (length s) u short lu }) e lt lu words

-- a text of a tuple, renamed, is the text of a tuple
pub marked-for : (to from : List (List ℕ)) (w : MarkedText) → length to ≤ 8 → length w.pairs ≤ 281474976710656 → IsMarked (length from) w → IsMarked (length to) (remarked_text (mark_for to from) w)
marked-for to from w few short h =
    let u = tuple_for to from h.tuple in
    let s = bytes_of w.pairs in
    let same = bytes-remarked (mark_for to from) w.pairs in
    let lies : Lies (length s) u = lies-for (length s) to from h.tuple h.lies in
    let len : length s ≤ 281474976710656 = omega (arith, short, length-bytes w.pairs) in
    let marks : remarked_text (mark_for to from) w ≡ marked_text s u = ap (remarked_text (mark_for to from)) h.marks ∙ renamed-text to from s h.tuple h.size in
    record {
      tuple = u;
      size = length-for to from h.tuple;
      valid = record { few = omega (arith, few, length-for to from h.tuple); spans = are-spans (length s) u len lies };
      lies = subst (λ (x : List ℕ). Lies (length x) u) (sym same) lies;
      marks = marks ∙ ap (λ x. marked_text x u) (sym same);
    }
  where
    length-bytes : (w : Marked) → length (bytes_of w) ≡ length w
    length-bytes [] = refl
    length-bytes (c ∷ w) = ap suc (length-bytes w)
