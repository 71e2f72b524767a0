-- The tables that are made have the right number of rows, and reach none but their states.
use Rattle.std.proofs.Common.{zero, suc, ◌≡◌, ℕ, ◌<◌, ◌≤◌, true, refl, ap, sym, ◌∙◌, arith, List, [], ◌∷◌, length, map, get_or, Option, Some, None, inl, inr}
use Rattle.std.proofs.lemmas.Bool.{cases_lt}
use Rattle.std.proofs.lemmas.List.{length-map}
use Rattle.std.proofs.lemmas.List.FromFn.{get_or-map-range_with_len, length-map-range_with_len}
use Rattle.std.proofs.Math.ListN.{get_or-eq_default}
use Rattle.marker_dfa.specs.Deterministic.{DeterministicAutomaton, IsDeterministic, states_of, marks_of, and_then}
use Rattle.state_tables.specs.StateSet.{member}
use Rattle.state_tables.specs.Table.{Row, no_row, row_at, unmarked_of, marked_of, marked_from, reach, byte_row, byte_table, compose_row, compose_of, IsTableOf}
use Rattle.state_tables.proofs.StateSets.{member-or, member-zero}
use Rattle.state_tables.proofs.Members.{not-both, or-cases, from-cases, reached-by, marks-reached}

none-some : {A : Type 0} (q : A) → None ≡ Some q → ⊥
none-some q h = cc

-- the value between two steps
pub then-between : (f : ℕ → Option ℕ) (o : Option ℕ) (y : ℕ) → and_then o f ≡ Some y → (x : ℕ) × (o ≡ Some x) × (f x ≡ Some y)
then-between f None y h = cc
then-between f (Some x) y h = (x, refl, h)

pub length-byte_table : (a : DeterministicAutomaton) (b : ℕ) → length (byte_table a b) ≡ states_of a
length-byte_table a b = length-map-range_with_len (byte_row a b) 0 (states_of a)

pub byte_table-row : (a : DeterministicAutomaton) (b p : ℕ) → p < states_of a → row_at (byte_table a b) p ≡ byte_row a b p
byte_table-row a b p h = get_or-map-range_with_len (byte_row a b) 0 (states_of a) p p no_row h (omega arith)

pub past-row : (t : List Row) (p : ℕ) → length t ≤ p → row_at t p ≡ no_row
past-row t p h = get_or-eq_default t no_row h

pub past-unmarked : {P : Type 0} (t : List Row) (p q : ℕ) → length t ≤ p → unmarked_of t p ≡ Some q → P
past-unmarked t p q h e = absurd (none-some q (sym (ap (λ r. r.unmarked) (past-row t p h)) ∙ e))

pub past-marked : {P : Type 0} (t : List Row) (p q : ℕ) → length t ≤ p → member (marked_of t p) q ≡ true → P
past-marked t p q h e = not-both (member (marked_of t p) q) e (ap (λ r. member r.marked q) (past-row t p h) ∙ member-zero q)

pub IsTableOf-byte : (a : DeterministicAutomaton) (b : ℕ) → IsDeterministic a → IsTableOf (states_of a) (byte_table a b)
IsTableOf-byte a b auto = record {
  states = length-byte_table a b;
  few = omega (arith, auto.few_states);
  unmarked_within = λ p q h. elim (cases_lt p (states_of a)) [
    | inl lt ↦ auto.within p 0 b q (ap (λ r. r.unmarked) (sym (byte_table-row a b p lt)) ∙ h)
    | inr ge ↦ past-unmarked (byte_table a b) p q (rw (length-byte_table a b) ge) h
  ];
  marked_within = λ p q h. elim (cases_lt p (states_of a)) [
    | inl lt ↦
        let found = marks-reached a p b q (marks_of a p b) (ap (λ r. member r.marked q) (sym (byte_table-row a b p lt)) ∙ h) in
        auto.within p found.0 b q found.1.1
    | inr ge ↦ past-marked (byte_table a b) p q (rw (length-byte_table a b) ge) h
  ];
}

pub compose-row_at : (left right : List Row) (p : ℕ) → p < length left → row_at (compose_of left right) p ≡ compose_row right (row_at left p)
compose-row_at left right p h = row-of-map left p h
  where
    row-of-map : (xs : List Row) (i : ℕ) → i < length xs → get_or (map (compose_row right) xs) i no_row ≡ compose_row right (get_or xs i no_row)
    row-of-map [] i lt = absurd (omega arith)
    row-of-map (x ∷ xs) zero lt = refl
    row-of-map (x ∷ xs) (suc i) lt = row-of-map xs i (omega arith)

pub length-compose : (left right : List Row) → length (compose_of left right) ≡ length left
length-compose left right = length-map left (compose_row right)

pub composed-within : (n : ℕ) (right : List Row) (row : Row) (q : ℕ) → IsTableOf n right → member (compose_row right row).marked q ≡ true → q < n
composed-within n right row q r h =
    elim (or-cases (member (marked_from right row.unmarked) q) (member (reach row.marked 0 right) q)
    (sym (member-or (marked_from right row.unmarked) (reach row.marked 0 right) q) ∙ h)) [
      | inl e ↦ let from = from-cases right row.unmarked q e in r.marked_within from.0 q from.1.1
      | inr e ↦
          let by = reached-by row.marked 0 q right e in
          elim by.how [
            | inl m ↦ r.marked_within by.index q m
            | inr m ↦ r.unmarked_within by.index q m
          ]
    ]

pub IsTableOf-compose : (n : ℕ) (left right : List Row) → IsTableOf n left → IsTableOf n right → IsTableOf n (compose_of left right)
IsTableOf-compose n left right l r = record {
  states = length-compose left right ∙ l.states;
  few = l.few;
  unmarked_within = λ p q h. elim (cases_lt p (length left)) [
    | inl lt ↦
        let between = then-between (unmarked_of right) (unmarked_of left p) q (ap (λ r. r.unmarked) (sym (compose-row_at left right p lt)) ∙ h) in
        r.unmarked_within between.0 q between.2
    | inr ge ↦ past-unmarked (compose_of left right) p q (rw (length-compose left right) ge) h
  ];
  marked_within = λ p q h. elim (cases_lt p (length left)) [
    | inl lt ↦ composed-within n right (row_at left p) q r (ap (λ r. member r.marked q) (sym (compose-row_at left right p lt)) ∙ h)
    | inr ge ↦ past-marked (compose_of left right) p q (rw (length-compose left right) ge) h
  ];
}
