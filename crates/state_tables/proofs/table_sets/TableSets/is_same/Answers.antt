use Rattle.std.proofs.Common.{arith}
use Rattle.state_tables.specs.TableRows.{sets_in}
use Rattle.state_tables.proofs.CodedRows.{set-lists-same}
use Rattle.state_tables.proofs.table_sets.TableSets.is_same.Goals as goal

pub returns : goal.returns
returns c =
    set-lists-same (sets_in c.args.self.now) (sets_in c.args.others.now) (omega (arith, c.width.ensures, c.width-2.ensures, c.if-width.false)) (omega (arith, c.len.ensures, c.len-else-width.ensures, c.if-len.false))
    (λ k lt. c.loop-set.invariant k (omega (arith, lt, c.len-set-end.ensures, c.loop-set-test.false)))
