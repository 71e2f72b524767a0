-- Tables by classes.
use Rattle.std.proofs.Common.{◌≡◌, ℕ, ◌<◌, Bool, true, false, inl, inr, refl, ap, sym, ◌∙◌, arith, List, length, get_or, ext_get_or}
use Rattle.std.proofs.lemmas.Bool.{cases_lt}
use Rattle.state_tables.specs.StateSet.{member, word_count}
use Rattle.state_tables.specs.Table.{IsTableOf, Row, no_row, row_at}
use Rattle.state_tables.specs.Coded.{RowList, table_of}
use Rattle.state_tables.specs.Classed.{IsClassed}
use Rattle.state_tables.specs.Digest.{digest_of, row_number, sum_digest}
use Rattle.state_tables.specs.Weights.{weighted}
use Rattle.state_tables.specs.Same.{table_eq, table_same}
use Rattle.state_tables.proofs.Collecting.{length-table, state-row}
use Rattle.state_tables.proofs.Keeping.{table-self}
use Rattle.state_tables.proofs.Shapes.{past-marked, past-unmarked}

-- the shape of the table
pub shape-classed : (cs : List ℕ) (list : RowList) → IsClassed cs list → IsTableOf (length (table_of cs list.rows)) (table_of cs list.rows)
shape-classed cs list is =
    let long : length (table_of cs list.rows) ≡ length cs = length-table cs list.rows in
    record {
      states = refl;
      few = omega (arith, long, is.few);
      unmarked_within = λ p q h. elim (cases_lt p (length cs)) [
        | inl lt ↦ omega (arith, long, is.rows_within.unmarked_within (get_or cs p 0) q (ap (λ r. r.unmarked) (sym (state-row cs list.rows p lt)) ∙ h))
        | inr ge ↦ past-unmarked (table_of cs list.rows) p q (omega (arith, long, ge)) h
      ];
      marked_within = λ p q h. elim (cases_lt p (length cs)) [
        | inl lt ↦ omega (arith, long, is.rows_within.marked_within (get_or cs p 0) q (ap (λ r. member r.marked q) (sym (state-row cs list.rows p lt)) ∙ h))
        | inr ge ↦ past-marked (table_of cs list.rows) p q (omega (arith, long, ge)) h
      ];
    }

-- the digest of the table
pub digest-classed : (cs : List ℕ) (list : RowList) → IsClassed cs list
    → sum_digest (weighted (row_number list.width) 0 (table_of cs list.rows)) ≡ digest_of (table_of cs list.rows)
unfolding digest_of
digest-classed cs list is =
    ap (λ w. sum_digest (weighted (row_number w) 0 (table_of cs list.rows))) (is.width ∙ ap word_count (sym (length-table cs list.rows)))

-- ---- tables that differ
differ-by : (xs ys : List Row) (p : ℕ) (b : Bool) → table_eq xs ys ≡ b → (row_at xs p ≡ row_at ys p → ⊥) → b ≡ false
differ-by xs ys p true same apart = absurd (apart (ap (λ t. row_at t p) (table_same xs ys same)))
differ-by xs ys p false same apart = refl

pub tables-differ : (xs ys : List Row) (p : ℕ) → (row_at xs p ≡ row_at ys p → ⊥) → table_eq xs ys ≡ false
tables-differ xs ys p apart = differ-by xs ys p (table_eq xs ys) refl apart

shorter-by : (xs ys : List Row) (b : Bool) → table_eq xs ys ≡ b → (length xs ≡ length ys → ⊥) → b ≡ false
shorter-by xs ys true same apart = absurd (apart (ap length (table_same xs ys same)))
shorter-by xs ys false same apart = refl

pub lengths-differ : (xs ys : List Row) → (length xs ≡ length ys → ⊥) → table_eq xs ys ≡ false
lengths-differ xs ys apart = shorter-by xs ys (table_eq xs ys) refl apart

pub tables-same : (xs ys : List Row) → xs ≡ ys → table_eq xs ys ≡ true
tables-same xs ys e = ap (λ t. table_eq t ys) e ∙ table-self ys

pub rows-same : (xs ys : List Row) → length xs ≡ length ys → ((p : ℕ) → p < length xs → row_at xs p ≡ row_at ys p) → table_eq xs ys ≡ true
rows-same xs ys long e = tables-same xs ys (ext_get_or no_row xs ys long e)
