use Rattle.span_enum.proofs.agreement.+agreement_over.Given as goal

abbrev pub decreases-agreement_over : goal.decreases-agreement_over
decreases-agreement_over g l = l.here.now.id.index
