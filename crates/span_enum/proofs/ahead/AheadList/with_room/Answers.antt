use Rattle.std.proofs.Common.{arith}
use Rattle.span_enum.proofs.ahead.AheadList.with_room.Goals as goal

pub new-sets-requires-room-T-MadeWith : goal.new-sets-requires-room-T-MadeWith
new-sets-requires-room-T-MadeWith g c κs = omega (arith, c.requires)
