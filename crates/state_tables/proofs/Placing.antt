-- Rows that are placed one at a time.
use Rattle.std.proofs.Common.{zero, suc, ◌≡◌, ℕ, ◌+◌, ◌<◌, ◌≤◌, ◌⊎◌, true, inl, inr, refl, ap, sym, subst, ◌∙◌, arith, List, [], ◌∷◌, ◌++◌, length, map, get_or, ext_get_or, Some, Option}
use Rattle.std.proofs.lemmas.Bool.{cases_lt}
use Rattle.std.proofs.lemmas.List.{get_or_append_left, get_or_push, get_or-map, length-map, length_push}
use Rattle.marker_dfa.specs.Deterministic.{DeterministicAutomaton, IsDeterministic, marks_of, states_of}
use Rattle.state_tables.specs.StateSet.{member, number_of_words, word_count}
use Rattle.state_tables.specs.Table.{IsTableOf, Row, byte_row, byte_table, compose_of, compose_row, no_row, row_at, unmarked_of}
use Rattle.state_tables.specs.Coded.{RowList, code_of, row_of, step_of, table_of}
use Rattle.state_tables.specs.Classed.{AreRowsAt, AreWithin, IsClassed}
use Rattle.state_tables.specs.RowSet.{IsRowAt, TakesRow}
use Rattle.state_tables.proofs.Members.{marks-reached, not-both}
use Rattle.state_tables.proofs.StateSets.{member-zero}
use Rattle.state_tables.proofs.Shapes.{byte_table-row, composed-within, length-byte_table, then-between}
use Rattle.state_tables.proofs.CodedRows.{step_of-code_of}
use Rattle.state_tables.proofs.Collecting.{length-table, state-row}

-- what one row reaches
pub record IsWithin (n : ℕ) (row : Row) : Type 0 where
  pub unmarked : (q : ℕ) → row.unmarked ≡ Some q → q < n
  pub marked : (q : ℕ) → member row.marked q ≡ true → q < n

-- a row of the longer list is one of the shorter list, or the last
last-row : (rows : List Row) (row : Row) (k : ℕ) → (row_at (rows ++ row ∷ []) k ≡ row_at rows k) ⊎ (row_at (rows ++ row ∷ []) k ≡ row)
last-row [] row zero = inr refl
last-row [] row (suc k) = inl refl
last-row (x ∷ rows) row zero = inl refl
last-row (x ∷ rows) row (suc k) = last-row rows row k

within-push : (n : ℕ) (rows : List Row) (row : Row) → AreWithin n rows → IsWithin n row → AreWithin n (rows ++ row ∷ [])
within-push n rows row are is = record {
  unmarked_within = λ k q h. elim (last-row rows row k) [
    | inl e ↦ are.unmarked_within k q (ap (λ r. r.unmarked) (sym e) ∙ h)
    | inr e ↦ is.unmarked q (ap (λ r. r.unmarked) (sym e) ∙ h)
  ];
  marked_within = λ k q h. elim (last-row rows row k) [
    | inl e ↦ are.marked_within k q (ap (λ r. member r.marked q) (sym e) ∙ h)
    | inr e ↦ is.marked q (ap (λ r. member r.marked q) (sym e) ∙ h)
  ];
}

-- no rows
pub within-none : (n : ℕ) → AreWithin n []
within-none n = record {
  unmarked_within = λ k q h. cc;
  marked_within = λ k q h. not-both (member 0 q) h (member-zero q);
}

kept-at : (old new : RowList) (row r : Row) (k : ℕ) → TakesRow old new row → IsRowAt old r k → IsRowAt new r k
kept-at old new row r k (inl e) at = subst (λ l. IsRowAt l r k) (sym e) at
kept-at old new row r k (inr e) at =
    subst (λ l. IsRowAt l r k) (sym e) (omega (arith, at.0, length_push old.rows row), get_or_append_left old.rows (row ∷ []) no_row k at.0 ∙ at.1)

within-taken : (n : ℕ) (old new : RowList) (row : Row) → TakesRow old new row → AreWithin n old.rows → IsWithin n row → AreWithin n new.rows
within-taken n old new row (inl e) are is = subst (λ l. AreWithin n l.rows) (sym e) are
within-taken n old new row (inr e) are is = subst (λ l. AreWithin n l.rows) (sym e) (within-push n old.rows row are is)

longer : (old new : RowList) (row : Row) → TakesRow old new row → length new.rows ≤ length old.rows + 1
longer old new row (inl e) = omega (arith, ap (λ l. length l.rows) e)
longer old new row (inr e) = omega (arith, ap (λ l. length l.rows) e, length_push old.rows row)

pub width-taken : (old new : RowList) (row : Row) → TakesRow old new row → new.width ≡ old.width
width-taken old new row (inl e) = ap (λ l. l.width) e
width-taken old new row (inr e) = ap (λ l. l.width) e

-- one more row
pub placed-more : (f : ℕ → Row) (n states : ℕ) (places : List ℕ) (old new : RowList) (row : Row) (k : ℕ) → AreRowsAt f n states places old → TakesRow old new row → IsRowAt new row k
    → row ≡ f n → IsWithin states row → AreRowsAt f (n + 1) states (places ++ k ∷ []) new
placed-more f n states places old new row k are takes at same is = record {
  long = omega (arith, length_push places k, are.long);
  few = omega (arith, longer old new row takes, are.few);
  placed = λ j lt. elim (cases_lt j n) [
    | inl less ↦
        subst (λ p. IsRowAt new (f j) p) (sym (get_or_append_left places (k ∷ []) 0 j (omega (arith, less, are.long)))) (kept-at old new row (f j) (get_or places j 0) takes (are.placed j less))
    | inr ge ↦
        let here : n ≡ j = omega (arith, lt, ge) in
        subst (λ p. IsRowAt new (f j) p) (sym (get_or_push places k 0 j (omega (arith, are.long, here)))) (at.0, at.1 ∙ same ∙ ap f here)
  ];
  rows_within = within-taken states old new row takes are.rows_within is;
}

pub placed-none : (f : ℕ → Row) (states width : ℕ) → AreRowsAt f 0 states [] (record { width = width; rows = [] })
placed-none f states width = record {
  long = refl;
  few = omega arith;
  placed = λ k lt. absurd (omega (arith, lt));
  rows_within = within-none states;
}

-- ---- composed rows
pub composed-is-within : (n : ℕ) (t : List Row) (row : Row) → IsTableOf n t → IsWithin n (compose_row t row)
composed-is-within n t row is = record {
  unmarked = λ q h. let between = then-between (unmarked_of t) row.unmarked q h in is.unmarked_within between.0 q between.2;
  marked = λ q h. composed-within n t row q is h;
}

-- the rows of the states, where those of the classes are placed
pub composed-table : (t : List Row) (left : List Row) (n states : ℕ) (places cs : List ℕ) (list : RowList) → AreRowsAt (λ k. compose_row t (row_at left k)) n states places list
    → ((p : ℕ) → p < length cs → get_or cs p 0 < n) → table_of (map (λ c. get_or places c 0) cs) list.rows ≡ compose_of (table_of cs left) t
composed-table t left n states places [] list are within = refl
composed-table t left n states places (k ∷ cs) list are within =
    ap (λ r. r ∷ table_of (map (λ c. get_or places c 0) cs) list.rows) (are.placed k (within 0 (omega arith))).1
    ∙ ap (λ rs. compose_row t (row_at left k) ∷ rs) (composed-table t left n states places cs list are (λ p lt. within (suc p) (omega (arith, lt))))

pub composed-classed : (f : ℕ → Row) (n : ℕ) (places cs : List ℕ) (list right : RowList) (rs : List ℕ) → AreRowsAt f n (length rs) places list → IsClassed rs right → list.width ≡ right.width
    → length cs ≡ length rs → n ≤ length cs → ((p : ℕ) → p < length cs → get_or cs p 0 < n) → IsClassed (map (λ c. get_or places c 0) cs) list
composed-classed f n places cs list right rs are is wide long most within =
    let same : length (map (λ c. get_or places c 0) cs) ≡ length rs = length-map cs (λ c. get_or places c 0) ∙ long in
    record {
      few = omega (arith, same, is.few);
      width = wide ∙ is.width ∙ ap word_count (sym same);
      no_more = omega (arith, are.few, most, same, long);
      classed = λ p lt.
          let low : p < length cs = omega (arith, lt, length-map cs (λ c. get_or places c 0)) in
          subst (λ k. k < length list.rows) (sym (get_or-map (λ c. get_or places c 0) cs p 0 0 low)) (are.placed (get_or cs p 0) (within p low)).0;
      rows_within = subst (λ m. AreWithin m list.rows) (sym same) are.rows_within;
    }

-- ---- the rows of a byte
pub byte-is-within : (a : DeterministicAutomaton) (b p : ℕ) → IsDeterministic a → IsWithin (states_of a) (byte_row a b p)
byte-is-within a b p auto = record {
  unmarked = λ q h. auto.within p 0 b q h;
  marked = λ q h. let found = marks-reached a p b q (marks_of a p b) h in auto.within p found.0 b q found.1.1;
}

-- the row of each state is placed
pub byte-classed : (a : DeterministicAutomaton) (b : ℕ) (places : List ℕ) (list : RowList) → IsDeterministic a → AreRowsAt (byte_row a b) (states_of a) (states_of a) places list
    → list.width ≡ word_count (states_of a) → IsClassed places list
byte-classed a b places list auto are wide = record {
  few = omega (arith, are.long, auto.few_states);
  width = wide ∙ ap word_count (sym are.long);
  no_more = omega (arith, are.few, are.long);
  classed = λ p lt. (are.placed p (omega (arith, lt, are.long))).0;
  rows_within = subst (λ m. AreWithin m list.rows) (sym are.long) are.rows_within;
}

pub placed-byte_table : (a : DeterministicAutomaton) (b : ℕ) (places : List ℕ) (list : RowList) → AreRowsAt (byte_row a b) (states_of a) (states_of a) places list
    → table_of places list.rows ≡ byte_table a b
placed-byte_table a b places list are =
    let left : length (table_of places list.rows) ≡ length places = length-table places list.rows in
    let right : length (byte_table a b) ≡ states_of a = length-byte_table a b in
    ext_get_or no_row (table_of places list.rows) (byte_table a b) (omega (arith, left, right, are.long)) (λ p lt.
    let low : p < states_of a = omega (arith, lt, left, are.long) in
    state-row places list.rows p (omega (arith, lt, left)) ∙ (are.placed p low).1 ∙ sym (byte_table-row a b p low))

-- a row from its code and its words
pub coded-row : (code : ℕ) (ws : List ℕ) (row : Row) → code ≡ code_of row.unmarked → number_of_words ws ≡ row.marked → row_of code ws ≡ row
coded-row code ws row step set =
    let make : Option ℕ → ℕ → Row = λ u n. record { unmarked = u; marked = n } in
    ap (λ u. make u (number_of_words ws)) (ap step_of step ∙ step_of-code_of row.unmarked) ∙ ap (make row.unmarked) set
