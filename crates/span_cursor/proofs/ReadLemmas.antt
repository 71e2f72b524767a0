-- A text is read entry by entry.
use Rattle.std.proofs.Common.{◌≡◌, ℕ, zero, suc, ◌+◌, ◌-◌, ◌<◌, ◌≤◌, List, [], ◌∷◌, ◌++◌, length, refl, sym, ap, subst, ◌∙◌, arith, slice_set, drop, get_or, add-one, drop-cons, codes, below_more}
use Rattle.std.specs.Prelude.{◌↔◌, Option, Some, slice_get}
use Rattle.std.proofs.lemmas.Option.{slice_get_within, get_or_from_slice_get}
use Rattle.span_types.specs.declared.tuple.Span.{Span}
use Rattle.span_types.specs.Places.{AreSpans}
use Rattle.span_types.specs.Marks.{spans_of}
use Rattle.line_parts.specs.NameList.{AreNames, IsName}
use Rattle.span_cursor.specs.Tuples.{entry_text, more_text, tuple_text, TupleText}
use Rattle.span_cursor.specs.Entries.{Entry, NextEntry}
use Rattle.span_cursor.proofs.EntryLemmas.{tails, same_entry, behind_comma, next_entry}
use Rattle.span_cursor.proofs.SpanLemmas.{Agrees, agrees_set, agrees_back, drop_span, span_ok}

drop_at : {A : Type 0} → (xs : List A) (i : ℕ) (x : A) → slice_get xs i ≡ Some x → drop i xs ≡ x ∷ drop (suc i) xs
drop_at xs i x h = drop-cons xs i x (slice_get_within xs i x h) ∙ ap (λ y. y ∷ drop (suc i) xs) (get_or_from_slice_get xs i x x h)

-- once the first v spans are known, this is left of the text
pub record Left (v : ℕ) (vars : List (List ℕ)) (tuple : List (Option Span)) (left : List ℕ) (values : List (Option Span)) : Type 0 where
  pub agrees : Agrees v tuple values
  pub rest : left ≡ more_text (drop v vars) (drop v values)

-- the names below v are names
abbrev pub NamedBelow : ℕ → List (List ℕ) → Type 0
NamedBelow v vars = (k : ℕ) → k < v → IsName (get_or vars k [])

pub all_named : (vars : List (List ℕ)) (n : ℕ) → length vars ≤ n → NamedBelow n vars → AreNames vars
all_named [] n lt h = tt
all_named (name ∷ vars) n lt h = (h 0 (omega (arith, lt)), all_named vars (n - 1) (omega (arith, lt)) (λ k below. h (suc k) (omega (arith, below, lt))))

pub named_at : (vars : List (List ℕ)) (v : ℕ) (name : List ℕ) → slice_get vars v ≡ Some name → IsName name → IsName (get_or vars v [])
named_at vars v name at named = subst IsName (sym (get_or_from_slice_get vars v name [] at)) named

pub more_at : (vars : List (List ℕ)) (values : List (Option Span)) (v : ℕ) (name : List ℕ) → slice_get vars v ≡ Some name → v < length values
    → more_text (drop v vars) (drop v values) ≡ 44 ∷ (entry_text name (spans_of values v) ++ more_text (drop (suc v) vars) (drop (suc v) values))
more_at vars values v name at lt = let names = drop_at vars v name at in let spans = drop_span values v lt in λ i. more_text (names i) (spans i)

pub next_there : (vars : List (List ℕ)) (tuple values : List (Option Span)) (v : ℕ) (name left : List ℕ) → slice_get vars v ≡ Some name → v < length values → IsName name → AreSpans values
    → Left v vars tuple left values → NextEntry left name (spans_of values v) (more_text (drop (suc v) vars) (drop (suc v) values))
next_there vars tuple values v name left at lt named spans l = record { named = named; spanned = span_ok values v spans; written = l.rest ∙ more_at vars values v name at lt }

same_next : (left name r q : List ℕ) (x y : Option Span) → NextEntry left name x r → NextEntry left name y q → (x ≡ y) × (r ≡ q)
same_next left name r q x y one two =
    let behind : List ℕ = entry_text name x ++ r in
    let mine : Entry behind name x r = record { named = one.named; spanned = one.spanned; written = refl } in
    let theirs = behind_comma left behind name q 44 y one.written two in
    let same = same_entry behind name name r q x y mine theirs.1 in
    (same.1, same.2)

pub next_left : (vars : List (List ℕ)) (tuple values : List (Option Span)) (v : ℕ) (name left rest : List ℕ) (value : Option Span) → slice_get vars v ≡ Some name
    → v < length values → v < length tuple → AreSpans values → NextEntry left name value rest
    → Left v vars tuple left values ↔ Left (suc v) vars (slice_set tuple v value) rest values
next_left vars tuple values v name left rest value at lt within spans next = (
  (λ l.
      let same = same_next left name rest (more_text (drop (suc v) vars) (drop (suc v) values)) value (spans_of values v) next (next_there vars tuple values v name left at lt next.named spans l) in
      record { agrees = agrees_set tuple values v value within l.agrees same.0; rest = same.1 }),
  (λ l.
      let back = agrees_back tuple values v value within l.agrees in
      record {
        agrees = back.0;
        rest = next.written ∙ (let spans_same = back.1 in let rests = l.rest in λ i. 44 ∷ (entry_text name (spans_same i) ++ rests i)) ∙ sym (more_at vars values v name at lt);
      }),
)

-- before the first entry the text is left, as if a comma stood before it
pub first_left : (vars : List (List ℕ)) (tuple values : List (Option Span)) (text : List ℕ) → 0 < length vars → length values ≡ length vars
    → (text ≡ tuple_text vars values) ↔ Left 0 vars tuple (44 ∷ text) values
first_left [] tuple values text some len = absurd (omega (arith, some))
first_left (name ∷ names) tuple [] text some len = absurd (omega (arith, len))
first_left (name ∷ names) tuple (value ∷ values) text some len = (
  (λ is. record { agrees = λ k below. absurd (omega (arith, below)); rest = ap (λ (l : List ℕ). 44 ∷ l) is }),
  (λ l. tails 44 44 text (entry_text name value ++ more_text names values) l.rest),
)

pub drop_end : {A : Type 0} → (xs : List A) (n : ℕ) → length xs ≤ n → drop n xs ≡ []
drop_end [] zero h = refl
drop_end [] (suc n) h = refl
drop_end (x ∷ xs) zero h = absurd (omega (arith, h))
drop_end (x ∷ xs) (suc n) h = drop_end xs n (omega (arith, h))

-- after the last entry nothing is left
pub end_left : (vars : List (List ℕ)) (tuple values : List (Option Span)) (v : ℕ) (left : List ℕ) → length vars ≤ v → Left v vars tuple left values → left ≡ []
end_left vars tuple values v left end l = l.rest ∙ (let e = drop_end vars v end in λ i. more_text (e i) (drop v values))

pub nothing_left : (vars : List (List ℕ)) (tuple : List (Option Span)) (v : ℕ) (left : List ℕ) → length vars ≤ v → left ≡ [] → Left v vars tuple left tuple
nothing_left vars tuple v left end none = record {
  agrees = λ k below. refl;
  rest = none ∙ (let e = drop_end vars v end in λ i. more_text (sym e i) (drop v tuple));
}

pub empty : {A : Type 0} → (xs : List A) → length xs ≡ 0 → xs ≡ []
empty [] h = refl
empty (x ∷ xs) h = absurd (omega (arith, h))

-- the text of no variables
pub no_vars : (vars : List (List ℕ)) (text : List ℕ) (values : List (Option Span)) → length vars ≡ 0 → TupleText text vars values → text ≡ codes "()"
no_vars [] text values none t = t.written
no_vars (name ∷ vars) text values none t = absurd (omega (arith, none))

pub of_no_vars : (vars : List (List ℕ)) (text : List ℕ) → length vars ≡ 0 → text ≡ codes "()" → TupleText text vars []
of_no_vars [] text none is = record { named = tt; spans = tt; paired = refl; written = is }
of_no_vars (name ∷ vars) text none is = absurd (omega (arith, none))

-- the text is that of the values exactly if this is left of it
abbrev pub Reads : ℕ → List (List ℕ) → List ℕ → List (Option Span) → List ℕ → Type 0
Reads v vars text tuple left = (values : List (Option Span)) → length values ≡ length vars → AreSpans values → (text ≡ tuple_text vars values) ↔ Left v vars tuple left values

pub start_reads : (vars : List (List ℕ)) (tuple : List (Option Span)) (text name left : List ℕ) (value : Option Span) → 0 < length vars → length tuple ≡ length vars
    → slice_get vars 0 ≡ Some name → Entry text name value left → Reads 1 vars text (slice_set tuple 0 value) left
start_reads vars tuple text name left value some long at entry values len spans =
    let first = first_left vars tuple values text some len in
    let next = next_left vars tuple values 0 name (44 ∷ text) left value at (omega (arith, some, len)) (omega (arith, some, long)) spans (next_entry (44 ∷ text) text name left value refl entry) in
    ((λ is. next.0 (first.0 is)), (λ l. first.1 (next.1 l)))

pub step_reads : (vars : List (List ℕ)) (tuple : List (Option Span)) (text name left rest : List ℕ) (value : Option Span) (v : ℕ) → v < length vars → length tuple ≡ length vars
    → slice_get vars v ≡ Some name → NextEntry left name value rest → Reads v vars text tuple left → Reads (v + 1) vars text (slice_set tuple v value) rest
step_reads vars tuple text name left rest value v below long at entry reads values len spans =
    let known = reads values len spans in
    let next = next_left vars tuple values v name left rest value at (omega (arith, below, len)) (omega (arith, below, long)) spans entry in
    let P : ℕ → Type 0 = λ n. Left n vars (slice_set tuple v value) rest values in
    ((λ is. subst P (sym (add-one v)) (next.0 (known.0 is))), (λ l. known.1 (next.1 (subst P (add-one v) l))))

pub no_step : (vars : List (List ℕ)) (tuple : List (Option Span)) (text name left : List ℕ) (v : ℕ) → v < length vars → slice_get vars v ≡ Some name → IsName name
    → ((value : Option Span) (rest : List ℕ) → NextEntry left name value rest → ⊥) → Reads v vars text tuple left → (values : List (Option Span)) → TupleText text vars values → ⊥
no_step vars tuple text name left v below at named none reads values t =
    let paired = t.paired in
    none (spans_of values v) (more_text (drop (suc v) vars) (drop (suc v) values))
    (next_there vars tuple values v name left at (omega (arith, below, paired)) named t.spans ((reads values (sym paired) t.spans).0 t.written))

pub end_reads : (vars : List (List ℕ)) (tuple : List (Option Span)) (text left : List ℕ) (v : ℕ) → length vars ≤ v → length tuple ≡ length vars → AreSpans tuple → NamedBelow v vars
    → left ≡ [] → Reads v vars text tuple left → TupleText text vars tuple
end_reads vars tuple text left v end long spans named none reads = record {
  named = all_named vars v end named;
  spans = spans;
  paired = sym long;
  written = (reads tuple long spans).1 (nothing_left vars tuple v left end none);
}

pub named_first : (vars : List (List ℕ)) (name : List ℕ) → slice_get vars 0 ≡ Some name → IsName name → NamedBelow 1 vars
named_first vars name at named k below =
    let zero_is : 0 ≡ k = omega (arith, below) in subst (λ (n : ℕ). IsName (get_or vars n [])) zero_is (named_at vars 0 name at named)

pub named_next : (vars : List (List ℕ)) (v : ℕ) (name : List ℕ) → NamedBelow v vars → slice_get vars v ≡ Some name → IsName name → NamedBelow (v + 1) vars
named_next vars v name names at named = below_more (λ k. IsName (get_or vars k [])) v names (named_at vars v name at named)
