use Rattle.std.proofs.Common.{◌≡◌, ◌++◌, length}
use Rattle.std.specs.Vec.Iter.{into_iter_items, into_iter_len}
use Rattle.table_grow.specs.Assignment.{AreKept}
use Rattle.table_grow.specs.Pieces.{AreNumbers}
use Rattle.table_grow.proofs.place.keep_made.Given as goal

abbrev pub invariant-loop-one : goal.invariant-loop-one
invariant-loop-one l = record {
  items : l.yielded ++ into_iter_items l.one-iterator ≡ l.fn.made.items;
  len : into_iter_len l.one-iterator ≡ length (into_iter_items l.one-iterator);
  kept : AreKept l.fn.filling.tables l.filling.tables;
  same : l.filling ≡ record l.fn.filling { tables = l.filling.tables; entries = l.filling.entries };
  size : length l.numbers.items ≡ length l.yielded;
  numbers : AreNumbers l.filling.tables l.yielded l.numbers.items;
}
