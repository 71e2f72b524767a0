use Rattle.std.proofs.Common.{◌≡◌, ℕ, List, ap, sym, subst, ◌∙◌, arith, length, map, get_or}
use Rattle.std.proofs.lemmas.List.{length-map}
use Rattle.state_tables.specs.StateSet.{word_count}
use Rattle.state_tables.specs.Table.{compose_of, compose_row, row_at}
use Rattle.state_tables.specs.Coded.{list_of, row_in, table_of}
use Rattle.state_tables.specs.Classed.{AreRowsAt, AreSetsWithin, IsClassed}
use Rattle.state_tables.proofs.Collecting.{length-table}
use Rattle.state_tables.proofs.Meanings.{IsTable-compose}
use Rattle.state_tables.proofs.Placing.{composed-classed, composed-table}
use Rattle.state_tables.proofs.composition.compose.Goals as goal
use Rattle.state_tables.proofs.composition.compose.Goals.{After-left, In_ok-partition}

-- as many states on both sides, before the rows are composed
as-long : (c : After-left) → length c.left.inside.partition ≡ length c.right.inside.partition
as-long c =
    sym (length-table c.left.inside.partition (list_of c.left.inside.rows).rows) ∙ ap length c.left.view_is ∙ c.requires ∙ sym (ap length c.right.view_is)
    ∙ length-table c.right.inside.partition (list_of c.right.inside.rows).rows

pub images_of-requires-clause-right : goal.images_of-requires-clause-right
images_of-requires-clause-right c = rw c.classes-classes.ensures c.right.invariant.classed.states

pub images_of-requires-clause-left : goal.images_of-requires-clause-left
images_of-requires-clause-left c = λ k q h. omega (arith, as-long c, ap length c.classes-classes.ensures, c.left.invariant.classed.sets_within k q h)

pub images_of-requires-clause-few : goal.images_of-requires-clause-few
images_of-requires-clause-few c = omega (arith, as-long c, ap length c.classes-classes.ensures, c.left.invariant.classed.few_sets)

pub images_of-requires-clause-width : goal.images_of-requires-clause-width
images_of-requires-clause-width c = c.left.invariant.classed.states.width ∙ ap word_count (as-long c) ∙ sym c.right.invariant.classed.states.width

-- ---- the places of the classes
pub merged-requires : goal.merged-requires
merged-requires c = λ p lt. omega (arith, c.left.invariant.classed.states.classed p lt, c.in_ok-places.ensures.placed.long)

-- ---- the composed table
-- the rows are placed
placed : (c : In_ok-partition) → AreRowsAt (λ k. compose_row (table_of c.right.inside.partition (list_of c.right.inside.rows).rows) (row_at (list_of c.left.inside.rows).rows k)) (length (list_of c.left.inside.rows).rows)
    (length c.right.inside.partition) c.in_ok-places.places (list_of c.compose_rows.new.found)
placed c =
    subst (λ rs. AreRowsAt (λ k. compose_row (table_of rs (list_of c.right.inside.rows).rows) (row_at (list_of c.left.inside.rows).rows k)) (length (list_of c.left.inside.rows).rows) (length rs) c.in_ok-places.places (list_of c.compose_rows.new.found))
    c.classes-classes.ensures c.in_ok-places.ensures.placed

-- as many states on both sides
long : (c : In_ok-partition) → length c.left.inside.partition ≡ length c.right.inside.partition
long c =
    sym (length-table c.left.inside.partition (list_of c.left.inside.rows).rows) ∙ ap length c.left.view_is ∙ c.requires ∙ sym (ap length c.right.view_is)
    ∙ length-table c.right.inside.partition (list_of c.right.inside.rows).rows

-- the new classes
classes : (c : In_ok-partition) → c.in_ok-partition.partition ≡ map (λ k. get_or c.in_ok-places.places k 0) c.left.inside.partition
classes c = c.in_ok-partition.ensures

classed : (c : In_ok-partition) → IsClassed c.in_ok-partition.partition (list_of c.compose_rows.new.found)
classed c =
    let right = list_of c.right.inside.rows in
    let left = list_of c.left.inside.rows in
    let f = λ (k : ℕ). compose_row (table_of c.right.inside.partition right.rows) (row_at left.rows k) in
    subst (λ cs. IsClassed cs (list_of c.compose_rows.new.found)) (sym (classes c))
    (composed-classed f (length left.rows) c.in_ok-places.places c.left.inside.partition (list_of c.compose_rows.new.found) right c.right.inside.partition (placed c)
    c.right.invariant.classed.states c.in_ok-places.ensures.width (long c) c.left.invariant.classed.states.no_more c.left.invariant.classed.states.classed)

whole : (c : In_ok-partition) → table_of c.in_ok-partition.partition (list_of c.compose_rows.new.found).rows ≡ compose_of c.args.left.now c.args.right.now
whole c =
    let left = list_of c.left.inside.rows in
    let t = table_of c.right.inside.partition (list_of c.right.inside.rows).rows in
    ap (λ cs. table_of cs (list_of c.compose_rows.new.found).rows) (classes c)
    ∙ composed-table t left.rows (length left.rows) (length c.right.inside.partition) c.in_ok-places.places c.left.inside.partition (list_of c.compose_rows.new.found) (placed c) c.left.invariant.classed.states.classed
    ∙ ap (λ l. compose_of l t) c.left.view_is ∙ ap (compose_of c.args.left.now) c.right.view_is

pub from_partition-requires : goal.from_partition-requires
from_partition-requires c =
    let at = (goal.at.from_partition-requires c).In_ok-partition in
    let same : length c.in_ok-partition.partition ≡ length c.right.inside.partition = ap length (classes at) ∙ length-map c.left.inside.partition (λ k. get_or c.in_ok-places.places k 0) ∙ long at in
    record {
      states = classed at;
      few_sets = omega (arith, same, long at, c.in_ok-places.ensures.few, c.left.invariant.classed.states.no_more, length-map c.left.inside.rows.rows (row_in c.left.inside.rows.sets));
      sets_within = subst (λ n. AreSetsWithin n c.compose_rows.new.found.sets) (sym same)
          (subst (λ (rs : List ℕ). AreSetsWithin (length rs) c.compose_rows.new.found.sets) c.classes-classes.ensures c.in_ok-places.ensures.within);
    }

pub returns-clause-value : goal.returns-clause-value
returns-clause-value c = c.from_partition.ensures ∙ whole (goal.at.returns-clause-value c).In_ok-partition

pub returns-clause-meaning : goal.returns-clause-meaning
returns-clause-meaning c = λ a s u auto l r.
    rw (c.from_partition.ensures ∙ whole (goal.at.returns-clause-meaning c).In_ok-partition) (IsTable-compose a s u c.args.left.now c.args.right.now auto l r)
