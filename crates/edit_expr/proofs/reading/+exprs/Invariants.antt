use Rattle.std.proofs.Common.{◌+◌, ◌*◌}
use Rattle.edit_expr.proofs.reading.+exprs.Given as goal

abbrev pub decreases-expression : goal.decreases-expression
decreases-expression l = 3 * l.depth

abbrev pub decreases-two : goal.decreases-two
decreases-two l = 3 * l.depth + 1

abbrev pub decreases-range : goal.decreases-range
decreases-range l = 3 * l.depth + 1

abbrev pub decreases-arguments : goal.decreases-arguments
decreases-arguments l = 3 * l.depth + 2
