use Rattle.std.proofs.Common.{arith}
use Rattle.query_book.proofs.Growth.{sound-at, served-at}
use Rattle.query_book.proofs.CountGrowth.{counted-set}
use Rattle.query_book.proofs.counting.count_at.Goals as goal

pub count_query-requires-clause-sound : goal.count_query-requires-clause-sound
count_query-requires-clause-sound g c κs within = sound-at c.args.by_name.now c.args.index c.value_mut-tabled.result.now c.requires.kept c.value_mut-tabled.ensures.value

pub count_query-requires-clause-served : goal.count_query-requires-clause-served
count_query-requires-clause-served g c κs within = served-at c.args.lent.store.now c.args.by_name.now c.args.index c.value_mut-tabled.result.now c.requires.served c.value_mut-tabled.ensures.value

pub returns-clause-steps : goal.returns-clause-steps
returns-clause-steps g c =
    omega (arith, counted-set c.args.by_name.now c.args.index c.value_mut-tabled.result.now c.count_query.new.tabled c.value_mut-tabled.ensures.value, c.count_query.ensures.steps)
