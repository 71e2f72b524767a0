use Rattle.slp_rebalance.proofs.+around.Given as goal

abbrev pub decreases-around : goal.decreases-around
decreases-around g l = l.run.times
