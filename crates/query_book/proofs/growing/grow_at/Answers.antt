use Rattle.std.proofs.Common.{arith}
use Rattle.query_book.proofs.Growth.{sound-at, served-at, total-set}
use Rattle.query_book.proofs.growing.grow_at.Goals as goal

pub grow_query-requires-clause-sound : goal.grow_query-requires-clause-sound
grow_query-requires-clause-sound g c κs within = sound-at c.args.by_name.now c.args.index c.value_mut-tabled.result.now c.requires.kept c.value_mut-tabled.ensures.value

pub grow_query-requires-clause-served : goal.grow_query-requires-clause-served
grow_query-requires-clause-served g c κs within = served-at c.args.lent.store.now c.args.by_name.now c.args.index c.value_mut-tabled.result.now c.requires.served c.value_mut-tabled.ensures.value

pub returns-clause-steps : goal.returns-clause-steps
returns-clause-steps g c =
    omega (arith, total-set c.args.by_name.now c.args.index c.value_mut-tabled.result.now c.grow_query.new.tabled c.value_mut-tabled.ensures.value, c.grow_query.ensures.steps)
