use Rattle.std.proofs.Common.{◌≡◌, map, take}
use Rattle.state_tables.specs.Table.{reach}
use Rattle.state_tables.specs.Coded.{list_of, table_of}
use Rattle.state_tables.proofs.composition.images_of.Given as goal

abbrev pub invariant-loop-set : goal.invariant-loop-set
invariant-loop-set l = record {
  width : l.images.width ≡ l.rows.width;
  sets : l.images.sets ≡ map (λ set. reach set 0 (table_of l.classes (list_of l.rows).rows)) (take l.set l.left.sets);
}
