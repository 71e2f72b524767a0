use Rattle.std.proofs.Common.{◌≡◌, ◌+◌}
use Rattle.query_book.specs.Growing.{ChangesFirst, Grows}
use Rattle.query_book.proofs.Growth.{total}
use Rattle.query_book.proofs.growing.grow_entries.Given as goal

-- each of the first queries has all tables, and each table was counted once
abbrev pub invariant-loop-index : goal.invariant-loop-index
invariant-loop-index g l = record {
  changed : ChangesFirst (Grows l.lent.store.now) l.index l.initial.by_name l.by_name;
  steps : l.places + total l.initial.by_name ≡ l.initial.places + total l.by_name;
}
