use Rattle.std.proofs.Common.{◌≡◌, ◌≤◌, length, map}
use Rattle.state_tables.specs.Table.{compose_row, reach, row_at}
use Rattle.state_tables.specs.Coded.{list_of, table_of}
use Rattle.state_tables.specs.Classed.{AreRowsAt, AreSetsWithin}
use Rattle.state_tables.specs.Unions.{AreUnions}
use Rattle.state_tables.proofs.composition.compose_rows.Given as goal

abbrev pub invariant-loop-row : goal.invariant-loop-row
invariant-loop-row l = record {
  images : l.unions.images ≡ map (λ set. reach set 0 (table_of l.classes (list_of l.rows).rows)) l.left.sets;
  memo_width : l.unions.width ≡ l.rows.width;
  width : l.found.width ≡ l.rows.width;
  unions : AreUnions l.unions l.rows.sets l.found.sets;
  few : length l.found.sets ≤ l.row;
  within : AreSetsWithin (length l.classes) l.found.sets;
  placed : AreRowsAt (λ k. compose_row (table_of l.classes (list_of l.rows).rows) (row_at (list_of l.left).rows k)) l.row (length l.classes) l.places (list_of l.found);
}
