use Rattle.table_grow.specs.Filling.{Continues, IsFilledTo, IsFilledUnder}
use Rattle.table_grow.proofs.growth.place_part.Given as goal

abbrev pub invariant-loop-index : goal.invariant-loop-index
invariant-loop-index g l = record {
  continues : Continues l.initial.filling l.filling;
  filled : IsFilledTo l.filling l.index;
}

abbrev pub invariant-loop-height : goal.invariant-loop-height
invariant-loop-height g l = record {
  continues : Continues l.fn.filling l.filling;
  under : IsFilledUnder l.filling l.from l.to l.height;
}
