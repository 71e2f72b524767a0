use Rattle.std.proofs.Common.{arith}
use Rattle.span_enum.proofs.trail.clear.Goals as goal

pub truncate-requires-room-T-MadeWith : goal.truncate-requires-room-T-MadeWith
truncate-requires-room-T-MadeWith g c κs = omega (arith, c.requires)
