use Rattle.std.proofs.Common.{◌≡◌, take}
use Rattle.name_map.specs.Kept.{live}
use Rattle.name_map.proofs.NameMap.copy.Given as goal

-- the copy has the pairs of the first slots
abbrev pub invariant-loop-held : goal.invariant-loop-held
invariant-loop-held g l = l.copy ≡ live (take l.held-index l.held-items)
