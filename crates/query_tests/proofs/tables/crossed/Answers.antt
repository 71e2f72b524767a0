use Rattle.std.proofs.Common.{rules, arith}
use Rattle.query_tests.proofs.Crossed.{crossed-order}
use Rattle.query_tests.proofs.tables.crossed.Goals as goal

pub returns-else-right-gt1 : goal.returns-else-right-gt1
returns-else-right-gt1 c =
    crossed-order c.args.store.now c.in-Byte-Pair.field-0-0 c.in-Byte-Pair.left c.in-Byte-Pair.right (search rules) c.count.ensures.sound (search rules) (search rules) (omega (arith, c.if-left-gt1.false)) (omega (arith, c.if-right-gt1.false))
