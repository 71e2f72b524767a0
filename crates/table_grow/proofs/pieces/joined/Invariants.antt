use Rattle.std.proofs.Common.{◌≡◌, ◌++◌, map, take}
use Rattle.table_grow.specs.Pieces.{shifted}
use Rattle.table_grow.proofs.pieces.joined.Given as goal

abbrev pub invariant-loop-spot : goal.invariant-loop-spot
invariant-loop-spot l = l.spots.items ≡ l.initial.spots.items ++ map (shifted l.before) (take l.spot-index l.spot-items)
