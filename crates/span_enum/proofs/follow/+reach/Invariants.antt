use Rattle.span_enum.proofs.follow.+reach.Given as goal

abbrev pub decreases-reach : goal.decreases-reach
decreases-reach g l = l.descent.now.here.id.index
