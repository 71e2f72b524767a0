use Rattle.path_counts.proofs.table.CountTable.counts.Goals as goal

pub returns-clause-counts : goal.returns-clause-counts
returns-clause-counts c = rw (← c.self.view_is, c.counts.ensures) (c.self.invariant.shape.counts c.args.p)
