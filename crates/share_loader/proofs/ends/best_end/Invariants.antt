use Rattle.std.proofs.Common.{◌≤◌}
use Rattle.share_loader.proofs.ends.best_end.Given as goal

abbrev pub invariant-loop-end : goal.invariant-loop-end
invariant-loop-end l = (3 ≤ l.len) × (l.len ≤ l.last)
