use Rattle.std.proofs.Common.{take}
use Rattle.table_grow.specs.Filling.{Assigns}
use Rattle.table_grow.proofs.schedule.fill_new.Given as goal

abbrev pub invariant-loop-id : goal.invariant-loop-id
invariant-loop-id l = Assigns l.fn.filling l.filling (take l.id-index l.schedule)
