use Rattle.std.proofs.Common.{◌≡◌, ◌+◌, length, take}
use Rattle.name_map.specs.Kept.{live}
use Rattle.name_map.proofs.slots.slot_of.Given as goal

abbrev pub invariant-loop-slot : goal.invariant-loop-slot
invariant-loop-slot g l = length (live (take l.slot l.slots.items.items)) + l.left ≡ l.index
