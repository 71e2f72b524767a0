use Rattle.store_compact.proofs.+keep_below.Given as goal

abbrev pub decreases-keep_below : goal.decreases-keep_below
decreases-keep_below l = l.id.index
