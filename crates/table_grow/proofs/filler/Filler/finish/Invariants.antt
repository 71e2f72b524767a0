use Rattle.std.proofs.Common.{◌≡◌, ◌+◌, ◌-◌, ◌++◌, map, take}
use Rattle.state_tables.specs.Coded.{step_of}
use Rattle.table_grow.specs.Assignment.{number_of_entry}
use Rattle.table_grow.proofs.filler.Filler.finish.Given as goal

abbrev pub invariant-loop-entry : goal.invariant-loop-entry
invariant-loop-entry g l = record {
  tables : l.tables ≡ record l.initial.tables {
    numbers = l.initial.tables.numbers ++ map number_of_entry (map step_of (take l.entry-index l.entry-items));
    room = l.initial.tables.room - l.entry-index;
  };
  steps : l.places ≡ l.initial.places + l.entry-index;
}
