use Rattle.span_enum.proofs.Base.{length, ◌*◌, ◌-◌}
use Rattle.span_enum.proofs.follow.+follow.Given as goal

abbrev pub decreases-follow : goal.decreases-follow
decreases-follow g l = 2 * l.input.now.dfa.now.variables - length l.trail.now.marks.items
