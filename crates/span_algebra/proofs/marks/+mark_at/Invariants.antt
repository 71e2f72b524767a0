use Rattle.std.proofs.Common.{length}
use Rattle.span_algebra.proofs.marks.+mark_at.Given as goal

abbrev pub decreases-mark_at : goal.decreases-mark_at
decreases-mark_at l = length l.places.now
