use Rattle.std.proofs.Common.{◌≡◌, ◌-◌, ◌<◌, ◌≤◌, take, length}
use Rattle.marker_dfa.specs.Deterministic.{states_of}
use Rattle.count_tables.specs.Dictionary.{AreKept, AreNodeTables}
use Rattle.count_tables.specs.Remembered.{AreTrueEntries, Extends}
use Rattle.count_tables.proofs.growth.place_new.Given as goal

abbrev pub invariant-loop-numbers : goal.invariant-loop-numbers
invariant-loop-numbers g l = record {
  some : 0 < l.most;
  within : length l.numbers.items ≤ l.count;
  tables : AreNodeTables l.growth.dfa.now l.growth.store.now l.kept l.numbers.items;
  longer : length l.fn.numbers.items ≤ length l.numbers.items;
  prefix : take (length l.fn.numbers.items) l.numbers.items ≡ l.fn.numbers.items;
  kept : AreKept (states_of l.growth.dfa.now) l.kept;
  extends : Extends l.fn.kept l.kept;
  entries : AreTrueEntries l.kept l.memo;
}

abbrev pub decreases-loop-numbers : goal.decreases-loop-numbers
decreases-loop-numbers g l = l.count - length l.numbers.items
