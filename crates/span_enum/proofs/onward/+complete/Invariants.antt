use Rattle.span_enum.proofs.Base.{length, ◌*◌, ◌-◌}
use Rattle.span_enum.proofs.onward.+complete.Given as goal

abbrev pub decreases-complete : goal.decreases-complete
decreases-complete g l = 2 * l.input.now.dfa.now.variables - length l.trail.now.marks.items
