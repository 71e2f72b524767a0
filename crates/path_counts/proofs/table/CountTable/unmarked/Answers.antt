use Rattle.std.proofs.Common.{length}
use Rattle.path_counts.specs.Counting.{unmarked_at}
use Rattle.path_counts.proofs.Adding.{some-within}
use Rattle.path_counts.proofs.table.CountTable.unmarked.Goals as goal

pub returns-clause-within : goal.returns-clause-within
returns-clause-within c =
    let t = c.self.inside.rows in
    rw (← c.self.view_is, c.unmarked.ensures) (some-within (unmarked_at t c.args.p) (length t) (c.self.invariant.shape.unmarked_within c.args.p))
