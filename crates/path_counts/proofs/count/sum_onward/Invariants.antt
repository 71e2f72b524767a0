use Rattle.std.proofs.Common.{◌≡◌, ◌+◌, ◌≤◌, drop}
use Rattle.path_counts.specs.Paths.{most, stopped}
use Rattle.path_counts.specs.Counting.{number_onward}
use Rattle.path_counts.proofs.count.sum_onward.Given as goal

abbrev pub invariant-loop-count : goal.invariant-loop-count
invariant-loop-count l = record {
  low : l.sum ≤ most;
  whole : stopped (l.sum + number_onward (drop l.count-index l.counts) l.after) ≡ stopped (number_onward l.counts l.after);
}
