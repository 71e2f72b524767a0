use Rattle.std.proofs.Common.{arith, ext_get_or}
use Rattle.state_tables.specs.Coded.{no_coded}
use Rattle.state_tables.proofs.table_rows.are_same.Goals as goal

pub returns : goal.returns
returns c = ext_get_or no_coded c.args.rows.now c.args.others.now (omega (arith, c.if-rows-others.false)) (λ k lt. c.loop-row.invariant k (omega (arith, lt, c.loop-row-test.false)))
