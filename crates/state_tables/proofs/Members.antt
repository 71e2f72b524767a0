-- What is in the sets of a table.
use Rattle.std.proofs.Common.{zero, suc, ◌≡◌, ℕ, ◌+◌, ◌<◌, ◌==◌, ◌^◌, ◌⊎◌, Bool, true, false, ◌||◌, refl, ap, sym, ◌∙◌, arith, List, [], ◌∷◌, length, get_or, Option, Some, None, inl, inr}
use Rattle.std.specs.Prelude.{if◌then◌else◌}
use Rattle.std.proofs.lemmas.Bool.{cases_eq}
use Rattle.marker_dfa.specs.Deterministic.{DeterministicAutomaton, next_of}
use Rattle.state_tables.specs.StateSet.{member, single_of}
use Rattle.state_tables.specs.Table.{Row, row_at, marked_of, marked_from, reach, reach_by_marks, reached_of}
use Rattle.state_tables.proofs.StateSets.{member-or, member-zero, member-single_same, member-single_other}

-- ---- truth values
pub or-cases : (x y : Bool) → (x || y) ≡ true → (x ≡ true) ⊎ (y ≡ true)
or-cases true y h = inl refl
or-cases false y h = inr h

pub or-left : (x y : Bool) → x ≡ true → (x || y) ≡ true
or-left true y h = refl
or-left false y h = cc

pub or-right : (x y : Bool) → y ≡ true → (x || y) ≡ true
or-right true y h = refl
or-right false y h = h

pub bool-cases : (x : Bool) → (x ≡ true) ⊎ (x ≡ false)
bool-cases true = inl refl
bool-cases false = inr refl

pub not-both : {P : Type 0} (x : Bool) → x ≡ true → x ≡ false → P
not-both x h k = cc

-- ---- sets
some-from_single : (o : Option ℕ) (q : ℕ) → member (single_of o) q ≡ true → o ≡ Some q
some-from_single None q h = not-both (member 0 q) h (member-zero q)
some-from_single (Some r) q h = elim (cases_eq q r) [
  | inl e ↦ ap Some (sym e)
  | inr ne ↦ not-both (member (2 ^ r) q) h (member-single_other r q ne)
]

single-from_some : (o : Option ℕ) (q : ℕ) → o ≡ Some q → member (single_of o) q ≡ true
single-from_some o q h = rw h (member-single_same q)

if-true : (t : Bool) (n q : ℕ) → member (if t then n else 0) q ≡ true → (t ≡ true) × (member n q ≡ true)
if-true true n q h = (refl, h)
if-true false n q h = not-both (member 0 q) h (member-zero q)

true-if : (t : Bool) (n q : ℕ) → t ≡ true → member n q ≡ true → member (if t then n else 0) q ≡ true
true-if true n q e h = h
true-if false n q e h = cc

-- ---- what a set reaches
-- some state of the set, numbered from k, reaches q
pub record ReachedBy (set k : ℕ) (rows : List Row) (q : ℕ) : Type 0 where
  pub index : ℕ
  pub among : index < length rows
  pub in_set : member set (k + index) ≡ true
  pub how : (member (row_at rows index).marked q ≡ true) ⊎ ((row_at rows index).unmarked ≡ Some q)

row-cases : (row : Row) (q : ℕ) → member (reached_of row) q ≡ true → (member row.marked q ≡ true) ⊎ (row.unmarked ≡ Some q)
row-cases row q h = elim (or-cases (member row.marked q) (member (single_of row.unmarked) q) (sym (member-or row.marked (single_of row.unmarked) q) ∙ h)) [
  | inl e ↦ inl e
  | inr e ↦ inr (some-from_single row.unmarked q e)
]

cases-row : (row : Row) (q : ℕ) → (member row.marked q ≡ true) ⊎ (row.unmarked ≡ Some q) → member (reached_of row) q ≡ true
cases-row row q h = member-or row.marked (single_of row.unmarked) q ∙ elim h [
  | inl e ↦ or-left (member row.marked q) (member (single_of row.unmarked) q) e
  | inr e ↦ or-right (member row.marked q) (member (single_of row.unmarked) q) (single-from_some row.unmarked q e)
]

pub reached-by : (set k q : ℕ) (rows : List Row) → member (reach set k rows) q ≡ true → ReachedBy set k rows q
reached-by set k q [] h = not-both (member 0 q) h (member-zero q)
reached-by set k q (row ∷ rows) h =
    elim (or-cases (member (if member set k then reached_of row else 0) q) (member (reach set (k + 1) rows) q)
    (sym (member-or (if member set k then reached_of row else 0) (reach set (k + 1) rows) q) ∙ h)) [
      | inl e ↦
          let both = if-true (member set k) (reached_of row) q e in
          record { index = 0; among = omega arith; in_set = ap (member set) (omega arith) ∙ both.0; how = row-cases row q both.1 }
      | inr e ↦
          let later = reached-by set (k + 1) q rows e in
          let at : k + suc later.index ≡ k + 1 + later.index = omega arith in
          record { index = suc later.index; among = omega (arith, later.among); in_set = ap (member set) at ∙ later.in_set; how = later.how }
    ]

pub by-reached : (set k q : ℕ) (rows : List Row) (i : ℕ) → i < length rows → member set (k + i) ≡ true
    → (member (row_at rows i).marked q ≡ true) ⊎ ((row_at rows i).unmarked ≡ Some q) → member (reach set k rows) q ≡ true
by-reached set k q [] i lt h how = absurd (omega arith)
by-reached set k q (row ∷ rows) zero lt h how =
    let here : member set k ≡ true = ap (member set) (omega arith) ∙ h in
    member-or (if member set k then reached_of row else 0) (reach set (k + 1) rows) q
    ∙ or-left _ _ (true-if (member set k) (reached_of row) q here (cases-row row q how))
by-reached set k q (row ∷ rows) (suc i) lt h how =
    let at : k + 1 + i ≡ k + suc i = omega arith in
    member-or (if member set k then reached_of row else 0) (reach set (k + 1) rows) q
    ∙ or-right _ _ (by-reached set (k + 1) q rows i (omega arith) (ap (member set) at ∙ h) how)

pub from-cases : (t : List Row) (o : Option ℕ) (q : ℕ) → member (marked_from t o) q ≡ true → (r : ℕ) × ((o ≡ Some r) × (member (marked_of t r) q ≡ true))
from-cases t None q h = not-both (member 0 q) h (member-zero q)
from-cases t (Some r) q h = (r, (refl, h))

-- ---- what the marks reach
pub marks-reached : (a : DeterministicAutomaton) (p b q : ℕ) (ms : List ℕ) → member (reach_by_marks a p b ms) q ≡ true
    → (m : ℕ) × (((m == 0) ≡ false) × (next_of a p m b ≡ Some q))
marks-reached a p b q [] h = not-both (member 0 q) h (member-zero q)
marks-reached a p b q (m ∷ ms) h =
    elim (or-cases (member (if m == 0 then 0 else single_of (next_of a p m b)) q) (member (reach_by_marks a p b ms) q)
    (sym (member-or (if m == 0 then 0 else single_of (next_of a p m b)) (reach_by_marks a p b ms) q) ∙ h)) [
      | inl e ↦ let both = if-false (m == 0) (single_of (next_of a p m b)) q e in (m, (both.0, some-from_single (next_of a p m b) q both.1))
      | inr e ↦ marks-reached a p b q ms e
    ]
  where
    if-false : (t : Bool) (n q : ℕ) → member (if t then 0 else n) q ≡ true → (t ≡ false) × (member n q ≡ true)
    if-false true n q h = not-both (member 0 q) h (member-zero q)
    if-false false n q h = (refl, h)

false-if : (t : Bool) (n q : ℕ) → t ≡ false → member n q ≡ true → member (if t then 0 else n) q ≡ true
false-if true n q e h = cc
false-if false n q e h = h

-- a mark of the list with a target
pub reached-marks : (a : DeterministicAutomaton) (p b q m : ℕ) (ms : List ℕ) (k : ℕ) → k < length ms → get_or ms k m ≡ m → (m == 0) ≡ false → next_of a p m b ≡ Some q
    → member (reach_by_marks a p b ms) q ≡ true
reached-marks a p b q m [] k lt at h e = absurd (omega arith)
reached-marks a p b q m (x ∷ ms) zero lt at h e =
    member-or (if x == 0 then 0 else single_of (next_of a p x b)) (reach_by_marks a p b ms) q
    ∙ or-left _ _ (false-if (x == 0) (single_of (next_of a p x b)) q (ap (λ n. n == 0) at ∙ h) (single-from_some (next_of a p x b) q (ap (λ n. next_of a p n b) at ∙ e)))
reached-marks a p b q m (x ∷ ms) (suc k) lt at h e =
    member-or (if x == 0 then 0 else single_of (next_of a p x b)) (reach_by_marks a p b ms) q
    ∙ or-right _ _ (reached-marks a p b q m ms k (omega arith) at h e)
