use Rattle.std.proofs.Common.{◌≡◌, ◌+◌, take, length}
use Rattle.marker_dfa.specs.Deterministic.{states_of}
use Rattle.count_tables.specs.Dictionary.{AreKept, AreNodeTables}
use Rattle.count_tables.specs.Remembered.{AreTrueEntries, Extends}
use Rattle.count_tables.proofs.growth.place_found.Given as goal

abbrev pub invariant-loop-entry : goal.invariant-loop-entry
invariant-loop-entry g l = record {
  long : length l.numbers.items ≡ length l.fn.numbers.items + l.entry-index;
  tables : AreNodeTables l.growth.dfa.now l.growth.store.now l.kept l.numbers.items;
  prefix : take (length l.fn.numbers.items) l.numbers.items ≡ l.fn.numbers.items;
  kept : AreKept (states_of l.growth.dfa.now) l.kept;
  extends : Extends l.fn.kept l.kept;
  entries : AreTrueEntries l.kept l.memo;
}
