-- Spans entry by entry.
use Rattle.std.proofs.Common.{◌≡◌, ℕ, zero, suc, ◌<◌, List, [], ◌∷◌, length, refl, sym, ap, subst, ◌∙◌, arith, slice_set, drop}
use Rattle.std.specs.Prelude.{◌⊎◌, Option}
use Rattle.std.proofs.Common.{inl, inr}
use Rattle.std.proofs.lemmas.Bool.{cases_order}
use Rattle.span_types.specs.declared.tuple.Span.{Span}
use Rattle.span_types.specs.Places.{IsSpanOr, AreSpans}
use Rattle.span_types.specs.Marks.{spans_of}
use Rattle.span_types.specs.Writes.{blanks}
use Rattle.span_cursor.proofs.TupleLemmas.{spans_cons, spans_head, spans_tail}

set_same : (t : List (Option Span)) (v : ℕ) (o : Option Span) → v < length t → spans_of (slice_set t v o) v ≡ o
set_same [] v o lt = absurd (omega arith)
set_same (x ∷ t) zero o lt = refl
set_same (x ∷ t) (suc v) o lt = set_same t v o (omega arith)

set_other : (t : List (Option Span)) (v w : ℕ) (o : Option Span) → (w ≡ v → ⊥) → spans_of (slice_set t v o) w ≡ spans_of t w
set_other [] v w o ne = refl
set_other (x ∷ t) zero zero o ne = absurd (ne refl)
set_other (x ∷ t) zero (suc w) o ne = refl
set_other (x ∷ t) (suc v) zero o ne = refl
set_other (x ∷ t) (suc v) (suc w) o ne = set_other t v w o (λ e. ne (ap suc e))

pub length_set : (t : List (Option Span)) (v : ℕ) (o : Option Span) → length (slice_set t v o) ≡ length t
length_set [] v o = refl
length_set (x ∷ t) zero o = refl
length_set (x ∷ t) (suc v) o = ap suc (length_set t v o)

pub spans_set : (t : List (Option Span)) (v : ℕ) (o : Option Span) → AreSpans t → IsSpanOr o → AreSpans (slice_set t v o)
spans_set [] v o ok one = ok
spans_set (x ∷ t) zero o ok one = spans_cons o t one (spans_tail x t ok)
spans_set (x ∷ t) (suc v) o ok one = spans_cons x (slice_set t v o) (spans_head x t ok) (spans_set t v o (spans_tail x t ok) one)

pub span_ok : (t : List (Option Span)) (v : ℕ) → AreSpans t → IsSpanOr (spans_of t v)
span_ok [] v ok = tt
span_ok (x ∷ t) zero ok = spans_head x t ok
span_ok (x ∷ t) (suc v) ok = span_ok t v (spans_tail x t ok)

pub drop_span : (t : List (Option Span)) (v : ℕ) → v < length t → drop v t ≡ spans_of t v ∷ drop (suc v) t
drop_span [] v lt = absurd (omega arith)
drop_span (x ∷ t) zero lt = refl
drop_span (x ∷ t) (suc v) lt = drop_span t v (omega arith)

pub length_blanks : (n : ℕ) → length (blanks n) ≡ n
length_blanks zero = refl
length_blanks (suc n) = ap suc (length_blanks n)

pub spans_blanks : (n : ℕ) → AreSpans (blanks n)
spans_blanks zero = tt
spans_blanks (suc n) = spans_blanks n

-- the two have the same spans below v
abbrev pub Agrees : ℕ → List (Option Span) → List (Option Span) → Type 0
Agrees v t u = (k : ℕ) → k < v → spans_of t k ≡ spans_of u k

pub agrees_same : (t u : List (Option Span)) → length t ≡ length u → Agrees (length t) t u → t ≡ u
agrees_same [] [] len same = refl
agrees_same [] (y ∷ u) len same = absurd (omega (arith, len))
agrees_same (x ∷ t) [] len same = absurd (omega (arith, len))
agrees_same (x ∷ t) (y ∷ u) len same =
    let first : x ≡ y = same 0 (omega arith) in
    let rest : t ≡ u = agrees_same t u (omega (arith, len)) (λ k lt. same (suc k) (omega (arith, lt))) in
    λ i. first i ∷ rest i

pub agrees_set : (t u : List (Option Span)) (v : ℕ) (o : Option Span) → v < length t → Agrees v t u → o ≡ spans_of u v → Agrees (suc v) (slice_set t v o) u
agrees_set t u v o lt same e k below = at (cases_order k v)
  where
    at : (k ≡ v) ⊎ ((k < v) ⊎ (v < k)) → spans_of (slice_set t v o) k ≡ spans_of u k
    at (inl is) = let P : ℕ → Type 0 = λ n. spans_of (slice_set t v o) n ≡ spans_of u n in subst P (sym is) (set_same t v o lt ∙ e)
    at (inr (inl less)) = set_other t v k o (λ is. omega (arith, is, less)) ∙ same k less
    at (inr (inr more)) = absurd (omega (arith, below, more))

pub agrees_back : (t u : List (Option Span)) (v : ℕ) (o : Option Span) → v < length t → Agrees (suc v) (slice_set t v o) u → Agrees v t u × (o ≡ spans_of u v)
agrees_back t u v o lt same = (
  (λ k below. sym (set_other t v k o (λ is. omega (arith, is, below))) ∙ same k (omega (arith, below))),
  sym (set_same t v o lt) ∙ same v (omega arith),
)
