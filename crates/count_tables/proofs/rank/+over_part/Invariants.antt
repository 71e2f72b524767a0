use Rattle.count_tables.proofs.rank.+over_part.Given as goal

abbrev pub decreases-over_part : goal.decreases-over_part
decreases-over_part g l = l.here.now.id.index
