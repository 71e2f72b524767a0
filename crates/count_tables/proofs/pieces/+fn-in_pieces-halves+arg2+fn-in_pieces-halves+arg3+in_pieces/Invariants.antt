use Rattle.std.proofs.Common.{◌+◌, ◌-◌, ◌*◌, ◌/◌}
use Rattle.count_tables.proofs.pieces.+fn-in_pieces-halves+arg2+fn-in_pieces-halves+arg3+in_pieces.Given as goal

abbrev pub decreases-in_pieces : goal.decreases-in_pieces
decreases-in_pieces g l = 2 * l.workers

abbrev pub decreases-halves+arg2 : goal.decreases-halves+arg2
decreases-halves+arg2 g l = 2 * (l.workers / 2) + 1

abbrev pub decreases-halves+arg3 : goal.decreases-halves+arg3
decreases-halves+arg3 g l = 2 * (l.workers - l.workers / 2) + 1
