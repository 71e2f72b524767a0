use Rattle.std.proofs.Common.{◌≡◌, ◌+◌, ◌≤◌, take, length, vec_capacity}
use Rattle.marker_dfa.specs.Deterministic.{states_of}
use Rattle.count_tables.specs.Dictionary.{AreKept, AreNodeTables}
use Rattle.count_tables.specs.Remembered.{AreTrueEntries, Extends}
use Rattle.count_tables.proofs.growth.place_in_order.Given as goal

abbrev pub invariant-loop-node : goal.invariant-loop-node
invariant-loop-node g l = record {
  long : length l.numbers.items ≡ length l.fn.numbers.items + l._node;
  room : length l.fn.numbers.items + l.nodes ≤ vec_capacity l.numbers;
  tables : AreNodeTables l.growth.dfa.now l.growth.store.now l.kept l.numbers.items;
  prefix : take (length l.fn.numbers.items) l.numbers.items ≡ l.fn.numbers.items;
  kept : AreKept (states_of l.growth.dfa.now) l.kept;
  extends : Extends l.fn.kept l.kept;
  entries : AreTrueEntries l.kept l.memo;
}
