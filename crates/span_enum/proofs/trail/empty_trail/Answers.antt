use Rattle.std.proofs.Common.{arith}
use Rattle.span_enum.proofs.trail.empty_trail.Goals as goal

pub new-marks-requires-room-T-MadeWith : goal.new-marks-requires-room-T-MadeWith
new-marks-requires-room-T-MadeWith g c κs = omega (arith, c.requires.narrow)

pub reserve-requires-room-T-MadeWith : goal.reserve-requires-room-T-MadeWith
reserve-requires-room-T-MadeWith g c κs = omega (arith, c.requires.narrow)
