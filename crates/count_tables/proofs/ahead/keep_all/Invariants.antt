use Rattle.std.proofs.Common.{◌≡◌, ◌++◌, length}
use Rattle.std.specs.Vec.Iter.{into_iter_items, into_iter_len}
use Rattle.count_tables.specs.Ahead.{AreFound}
use Rattle.count_tables.specs.Remembered.{AreTrueEntries, Extends}
use Rattle.count_tables.proofs.ahead.keep_all.Given as goal

abbrev pub invariant-loop-one : goal.invariant-loop-one
invariant-loop-one g l = record {
  items : l.yielded ++ into_iter_items l.one-iterator ≡ l.fn.made.items;
  len : into_iter_len l.one-iterator ≡ length (into_iter_items l.one-iterator);
  found : AreFound l.growth.dfa.now l.growth.store.now l.kept l.numbers l.found;
  entries : AreTrueEntries l.kept l.memo;
  extends : Extends l.fn.kept l.kept;
}
