use Rattle.std.proofs.Common.{◌≡◌, ap, sym, subst, ◌∙◌, arith, length}
use Rattle.std.proofs.lemmas.List.{length-map}
use Rattle.state_tables.specs.StateSet.{member}
use Rattle.state_tables.specs.Table.{IsTableOf, compose_row, reach, row_at}
use Rattle.state_tables.specs.Coded.{list_of, row_in, table_of}
use Rattle.state_tables.specs.Classed.{AreRowsAt, AreSetsWithin}
use Rattle.state_tables.specs.RowSet.{TakesRow}
use Rattle.state_tables.specs.Unions.{AreUnions, union_of}
use Rattle.state_tables.proofs.ClassedTables.{shape-classed}
use Rattle.state_tables.proofs.Collecting.{length-table}
use Rattle.state_tables.proofs.Composing.{row-composed, sets-longer, sets-none, sets-taken-within, union-composed}
use Rattle.state_tables.proofs.Placing.{IsWithin, composed-is-within, placed-more, placed-none, width-taken}
use Rattle.state_tables.proofs.composition.compose_rows.Goals as goal
use Rattle.state_tables.proofs.composition.compose_rows.Goals.{In_ok-set, In_ok-push}

pub loop-row-init : goal.loop-row-init
loop-row-init c =
    let t = table_of c.args.classes.now (list_of c.args.rows.now).rows in
    record {
      images = ap (λ u. u.images) c.new-unions.ensures.images ∙ ap (λ i. i.sets) c.requires.images;
      memo_width = ap (λ u. u.width) c.new-unions.ensures.images ∙ ap (λ i. i.width) c.requires.images;
      width = ap (λ f. f.width) c.requires.empty;
      unions = c.new-unions.ensures.none c.args.rows.now.sets c.args.found.now.sets;
      few = omega (arith, ap (λ f. length f.sets) c.requires.empty);
      within = rw c.requires.empty (sets-none (length c.args.classes.now));
      placed = rw (c.new-places.ensures, c.requires.empty) (placed-none (λ k. compose_row t (row_at (list_of c.args.left.now).rows k)) (length c.args.classes.now) c.args.rows.now.width);
    }

pub index_of-requires-clause-image : goal.index_of-requires-clause-image
index_of-requires-clause-image c =
    omega (arith, c.set_of.ensures.within, ap length c.loop-row.invariant.images, length-map c.args.left.now.sets (λ set. reach set 0 (table_of c.args.classes.now (list_of c.args.rows.now).rows)))

pub index_of-requires-clause-few : goal.index_of-requires-clause-few
index_of-requires-clause-few c = omega (arith, c.loop-row.invariant.few, c.loop-row-test.true, c.len-row-end.ensures.rows, c.loop-row.auto.row-end, c.requires.few, c.requires.right.few)

-- the set of the composed row
union : (c : In_ok-set) → union_of c.loop-row.unions.images c.args.rows.now.sets c.set_of.result c.step_over-code.result.1
    ≡ (compose_row (table_of c.args.classes.now (list_of c.args.rows.now).rows) (row_at (list_of c.args.left.now).rows c.loop-row.row)).marked
union c =
    union-composed (table_of c.args.classes.now (list_of c.args.rows.now).rows) (row_at (list_of c.args.left.now).rows c.loop-row.row) c.loop-row.unions.images c.args.rows.now.sets
    c.args.left.now.sets c.code.result c.set_of.result c.step_over-code.result.1 c.loop-row.invariant.images c.set_of.ensures.within c.set_of.ensures.set c.code.ensures c.step_over-code.ensures.marked

pub index_of-requires-in-loop-row-clause-few : goal.index_of-requires-in-loop-row-clause-few
index_of-requires-in-loop-row-clause-few c =
    omega (
      arith,
      ap (λ l. length l.rows) c.in_ok-set.ensures.same,
      length-map c.index_of.new.found.rows (row_in c.index_of.new.found.sets),
      c.loop-row.invariant.placed.few,
      c.loop-row-test.true,
      c.len-row-end.ensures.rows,
      c.loop-row.auto.row-end,
      c.requires.few,
      c.requires.right.few,
    )

pub loop-row-preserved : goal.loop-row-preserved
loop-row-preserved c =
    let n = length c.args.classes.now in
    let t = table_of c.args.classes.now (list_of c.args.rows.now).rows in
    let k = c.loop-row.row in
    let left = row_at (list_of c.args.left.now).rows c.loop-row.row in
    let old = c.loop-row.found in
    let mid = c.index_of.new.found in
    let new = c.index_of-in-loop-row.new.self in
    let row = row_in mid.sets (record { code = c.step_over-code.result.0; set = c.in_ok-set.set }) in
    let is = union (goal.at.loop-row-preserved c).In_ok-set in
    let shape : IsTableOf (length c.args.classes.now) (table_of c.args.classes.now (list_of c.args.rows.now).rows) =
    subst (λ m. IsTableOf m t) (length-table c.args.classes.now (list_of c.args.rows.now).rows) (shape-classed c.args.classes.now (list_of c.args.rows.now) c.requires.right) in
    let within = composed-is-within n t left shape in
    let same : row_in c.index_of.new.found.sets (record { code = c.step_over-code.result.0; set = c.in_ok-set.set })
    ≡ compose_row (table_of c.args.classes.now (list_of c.args.rows.now).rows) (row_at (list_of c.args.left.now).rows c.loop-row.row) =
    row-composed t left mid.sets c.code.result c.step_over-code.result.0 c.in_ok-set.set c.code.ensures c.step_over-code.ensures.code (c.in_ok-set.ensures.index.1 ∙ is) in
    let takes : TakesRow (list_of c.loop-row.found) (list_of c.index_of-in-loop-row.new.self) (row_in c.index_of.new.found.sets (record { code = c.step_over-code.result.0; set = c.in_ok-set.set })) =
    subst (λ l. TakesRow l (list_of new) row) c.in_ok-set.ensures.same c.in_ok-index_of.ensures.taken in
    record {
      images = ap (λ u. u.images) c.index_of.ensures.images ∙ c.loop-row.invariant.images;
      memo_width = ap (λ u. u.width) c.index_of.ensures.images ∙ c.loop-row.invariant.memo_width;
      width = width-taken (list_of old) (list_of new) row takes ∙ c.loop-row.invariant.width;
      unions = subst (AreUnions c.index_of.new.self c.args.rows.now.sets) (sym c.index_of-in-loop-row.ensures.sets) c.in_ok-set.ensures.unions;
      few = omega (arith, ap length c.index_of-in-loop-row.ensures.sets, sets-longer old.sets mid.sets _ c.in_ok-set.ensures.taken, c.loop-row.invariant.few);
      within = subst (AreSetsWithin n) (sym c.index_of-in-loop-row.ensures.sets)
          (sets-taken-within n old.sets mid.sets _ c.in_ok-set.ensures.taken c.loop-row.invariant.within (λ q h. within.marked q (ap (λ s. member s q) (sym is) ∙ h)));
      placed = rw c.in_ok-push.ensures
          (placed-more (λ j. compose_row t (row_at (list_of c.args.left.now).rows j)) k n c.loop-row.places (list_of old) (list_of new) row c.in_ok-index_of.field-0 c.loop-row.invariant.placed takes
          c.in_ok-index_of.ensures.index same (subst (IsWithin n) (sym same) within));
    }

pub returns-clause-width : goal.returns-clause-width
returns-clause-width c = c.loop-row.invariant.width

pub returns-clause-few : goal.returns-clause-few
returns-clause-few c = omega (arith, c.loop-row.invariant.few, c.loop-row.auto.row-end, c.len-row-end.ensures.rows)

pub returns-clause-within : goal.returns-clause-within
returns-clause-within c = c.loop-row.invariant.within

pub returns-clause-placed : goal.returns-clause-placed
returns-clause-placed c =
    let at : c.loop-row.row ≡ length (list_of c.args.left.now).rows = omega (arith, c.loop-row-test.false, c.loop-row.auto.row-end, c.len-row-end.ensures.list) in
    subst (λ m. AreRowsAt (λ k. compose_row (table_of c.args.classes.now (list_of c.args.rows.now).rows) (row_at (list_of c.args.left.now).rows k)) m (length c.args.classes.now) c.loop-row.places (list_of c.loop-row.found))
    at c.loop-row.invariant.placed
