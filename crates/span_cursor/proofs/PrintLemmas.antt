-- A tuple is printed entry by entry.
use Rattle.std.proofs.Common.{◌≡◌, ◌++◌, ◌∷◌, ◌<◌, ◌≤◌, ◌+◌, ℕ, suc, add-one, subst, List, [], drop, length, sym, ap, ◌∙◌, append_assoc}
use Rattle.std.specs.Prelude.{Option, Some, slice_get}
use Rattle.std.proofs.lemmas.List.{append-nil}
use Rattle.span_types.specs.declared.tuple.Span.{Span}
use Rattle.span_types.specs.Marks.{spans_of}
use Rattle.span_cursor.specs.Tuples.{entry_text, more_text, tuple_text}
use Rattle.span_cursor.proofs.ReadLemmas.{more_at, drop_end}

next_printed : (prefix : List ℕ) (vars : List (List ℕ)) (values : List (Option Span)) (v : ℕ) (name : List ℕ) → slice_get vars v ≡ Some name → v < length values
    → ((prefix ++ 44 ∷ []) ++ entry_text name (spans_of values v)) ++ more_text (drop (suc v) vars) (drop (suc v) values) ≡ prefix ++ more_text (drop v vars) (drop v values)
next_printed prefix vars values v name at lt =
    let rest : List ℕ = more_text (drop (suc v) vars) (drop (suc v) values) in
    let assoc : ((prefix ++ 44 ∷ []) ++ entry_text name (spans_of values v)) ++ rest ≡ prefix ++ 44 ∷ (entry_text name (spans_of values v) ++ rest) = simp append_assoc in
    assoc ∙ ap (λ (l : List ℕ). prefix ++ l) (sym (more_at vars values v name at lt))

-- what is printed and what is left stay the whole text
pub step_printed : (prefix with_comma now : List ℕ) (vars : List (List ℕ)) (values : List (Option Span)) (v : ℕ) (name : List ℕ) (value : Option Span) → slice_get vars v ≡ Some name → v < length values
    → value ≡ spans_of values v → with_comma ≡ prefix ++ 44 ∷ [] → now ≡ with_comma ++ entry_text name value
    → prefix ++ more_text (drop v vars) (drop v values) ≡ tuple_text vars values → now ++ more_text (drop (v + 1) vars) (drop (v + 1) values) ≡ tuple_text vars values
step_printed prefix with_comma now vars values v name value at lt is comma entry whole =
    let P : ℕ → Type 0 = λ n. now ++ more_text (drop n vars) (drop n values) ≡ tuple_text vars values in
    let text : now ≡ (prefix ++ 44 ∷ []) ++ entry_text name (spans_of values v) = entry ∙ (λ i. comma i ++ entry_text name (is i)) in
    subst P (sym (add-one v)) (ap (λ (l : List ℕ). l ++ more_text (drop (suc v) vars) (drop (suc v) values)) text ∙ next_printed prefix vars values v name at lt ∙ whole)

pub last_printed : (prefix : List ℕ) (vars : List (List ℕ)) (values : List (Option Span)) (v : ℕ) → length vars ≤ v → prefix ++ more_text (drop v vars) (drop v values) ≡ tuple_text vars values → prefix ≡ tuple_text vars values
last_printed prefix vars values v end is =
    let none : more_text (drop v vars) (drop v values) ≡ [] = (let e = drop_end vars v end in λ i. more_text (e i) (drop v values)) in
    sym (append-nil prefix) ∙ ap (λ (l : List ℕ). prefix ++ l) (sym none) ∙ is
