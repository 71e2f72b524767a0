use Rattle.std.proofs.Common.{◌≡◌}
use Rattle.name_map.specs.Kept.{indexed}
use Rattle.name_map.proofs.SlotLaws.{NumberedTo}
use Rattle.name_map.proofs.closing.number_all.Given as goal

abbrev pub invariant-loop-slot : goal.invariant-loop-slot
invariant-loop-slot g l = record {
  items : l.slots.items.items ≡ l.fn.slots.items.items;
  empty : l.slots.empty ≡ l.fn.slots.empty;
  numbered : NumberedTo (indexed l.slots.index.entries) l.slots.items.items l.slot;
}
