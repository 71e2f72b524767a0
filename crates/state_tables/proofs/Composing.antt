-- Rows that are composed by way of their sets.
use Rattle.std.proofs.Common.{◌≡◌, ℕ, ◌+◌, ◌<◌, ◌≤◌, true, inl, inr, ap, sym, subst, ◌∙◌, arith, List, [], ◌∷◌, ◌++◌, length, map, get_or, bit_or, Option}
use Rattle.std.proofs.lemmas.Bool.{cases_lt}
use Rattle.std.proofs.lemmas.List.{get_or_append_left, get_or_push, get_or_past, get_or-map, length_push}
use Rattle.marker_dfa.specs.Deterministic.{and_then}
use Rattle.state_tables.specs.StateSet.{member}
use Rattle.state_tables.specs.Table.{Row, compose_row, marked_from, reach, unmarked_of}
use Rattle.state_tables.specs.Coded.{code_of, row_in, set_beyond, step_of}
use Rattle.state_tables.specs.Classed.{AreSetsWithin}
use Rattle.state_tables.specs.RowSet.{TakesSet}
use Rattle.state_tables.specs.Unions.{union_of}
use Rattle.state_tables.proofs.CodedRows.{step_of-code_of}
use Rattle.state_tables.proofs.Members.{not-both}
use Rattle.state_tables.proofs.StateSets.{member-zero}

-- at most one set more
pub sets-longer : (old new : List ℕ) (set : ℕ) → TakesSet old new set → length new ≤ length old + 1
sets-longer old new set (inl e) = omega (arith, ap length e)
sets-longer old new set (inr e) = omega (arith, ap length e, length_push old set)

-- no sets
pub sets-none : (n : ℕ) → AreSetsWithin n []
sets-none n k q h = not-both (member 0 q) h (member-zero q)

sets-push-within : (n : ℕ) (old : List ℕ) (set : ℕ) → AreSetsWithin n old → ((q : ℕ) → member set q ≡ true → q < n) → AreSetsWithin n (old ++ set ∷ [])
sets-push-within n old set are is k q h = elim (cases_lt k (length old)) [
  | inl less ↦ are k q (ap (λ s. member s q) (sym (get_or_append_left old (set ∷ []) 0 k less)) ∙ h)
  | inr ge ↦ elim (cases_lt (length old) k) [
    | inl past ↦
        let none : get_or (old ++ set ∷ []) k 0 ≡ 0 = get_or_past (old ++ set ∷ []) k 0 (omega (arith, past, length_push old set)) in
        not-both (member 0 q) (ap (λ s. member s q) (sym none) ∙ h) (member-zero q)
    | inr le ↦ is q (ap (λ s. member s q) (sym (get_or_push old set 0 k (omega (arith, ge, le)))) ∙ h)
  ]
]

pub sets-taken-within : (n : ℕ) (old new : List ℕ) (set : ℕ) → TakesSet old new set → AreSetsWithin n old → ((q : ℕ) → member set q ≡ true → q < n) → AreSetsWithin n new
sets-taken-within n old new set (inl e) are is = subst (AreSetsWithin n) (sym e) are
sets-taken-within n old new set (inr e) are is = subst (AreSetsWithin n) (sym e) (sets-push-within n old set are is)

-- the union of what the marked set reaches and of what the unmarked state reaches with marks
pub union-composed : (t : List Row) (row : Row) (images rights sets : List ℕ) (code set beyond : ℕ) → images ≡ map (λ s. reach s 0 t) sets → set < length sets → get_or sets set 0 ≡ row.marked
    → code ≡ code_of row.unmarked → set_beyond rights beyond ≡ marked_from t (step_of code) → union_of images rights set beyond ≡ (compose_row t row).marked
union-composed t row images rights sets code set beyond all low is step marked =
    ap (bit_or (set_beyond rights beyond)) (ap (λ l. get_or l set 0) all ∙ get_or-map (λ s. reach s 0 t) sets set 0 0 low ∙ ap (λ s. reach s 0 t) is)
    ∙ ap (λ m. bit_or m (reach row.marked 0 t)) (marked ∙ ap (marked_from t) (ap step_of step ∙ step_of-code_of row.unmarked))

-- the composed row
pub row-composed : (t : List Row) (row : Row) (found : List ℕ) (code next set : ℕ) → code ≡ code_of row.unmarked → step_of next ≡ and_then (step_of code) (unmarked_of t)
    → get_or found set 0 ≡ (compose_row t row).marked → row_in found (record { code = next; set = set }) ≡ compose_row t row
row-composed t row found code next set step steps is =
    let make : Option ℕ → ℕ → Row = λ u n. record { unmarked = u; marked = n } in
    ap (λ u. make u (get_or found set 0)) (steps ∙ ap (λ o. and_then o (unmarked_of t)) (ap step_of step ∙ step_of-code_of row.unmarked))
    ∙ ap (make (and_then row.unmarked (unmarked_of t))) is
