use Rattle.span_enum.proofs.walk.+state_over.Given as goal

abbrev pub decreases-state_over : goal.decreases-state_over
decreases-state_over g l = l.part.now.id.index
