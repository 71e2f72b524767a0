use Rattle.std.proofs.Common.{◌<◌, length}
use Rattle.state_tables.proofs.distinct_sets.find.Given as goal

abbrev pub invariant-loop : goal.invariant-loop
invariant-loop l = l.slot < length l.slots
