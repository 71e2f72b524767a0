use Rattle.std.proofs.Common.{◌≡◌, ◌+◌}
use Rattle.count_tables.proofs.growth.count_steps.Given as goal

abbrev pub invariant-loop-step : goal.invariant-loop-step
invariant-loop-step g l = l.places ≡ l.initial.places + l._step
