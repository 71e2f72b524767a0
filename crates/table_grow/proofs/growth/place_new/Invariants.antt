use Rattle.std.proofs.Common.{◌<◌, ◌≤◌, ◌-◌}
use Rattle.table_grow.specs.Filling.{Continues, IsFilledTo}
use Rattle.table_grow.proofs.growth.place_new.Given as goal

abbrev pub invariant-loop-from : goal.invariant-loop-from
invariant-loop-from g l = record {
  some : 0 < l.most;
  within : l.from ≤ l.count;
  continues : Continues l.fn.filling l.filling;
  filled : IsFilledTo l.filling l.from;
}

abbrev pub decreases-loop-from : goal.decreases-loop-from
decreases-loop-from g l = l.count - l.from
