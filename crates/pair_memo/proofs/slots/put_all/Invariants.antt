use Rattle.std.proofs.Common.{◌≡◌, ◌≤◌, length, Contains}
use Rattle.pair_memo.specs.Entries.{Entry, entries_of}
use Rattle.pair_memo.proofs.slots.put_all.Given as goal

abbrev pub invariant-loop-slot : goal.invariant-loop-slot
invariant-loop-slot l = record {
  entries : (e : Entry) → Contains (entries_of l.to) e → Contains (entries_of l.from) e;
  count : l.count ≡ length (entries_of l.to);
  few : l.count ≤ l.slot-index;
}
