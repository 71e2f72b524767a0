use Rattle.count_tables.proofs.nth.+find.Given as goal

abbrev pub decreases-find : goal.decreases-find
decreases-find g l = l.here.now.id.index
