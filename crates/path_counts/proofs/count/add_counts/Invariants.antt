use Rattle.std.proofs.Common.{◌≡◌, ℕ, ◌+◌, ◌*◌, ◌<◌, ◌≤◌, length, get_or, drop}
use Rattle.path_counts.specs.Paths.{most, stopped}
use Rattle.path_counts.specs.Counting.{number_in}
use Rattle.path_counts.proofs.count.add_counts.Given as goal

abbrev pub invariant-loop-count : goal.invariant-loop-count
invariant-loop-count l = record {
  low : (q : ℕ) → get_or l.sums q 0 ≤ most;
  sum : (q : ℕ) → q < length l.sums → stopped (get_or l.sums q 0 + l.times * number_in (drop l.count-index l.counts) q) ≡ stopped (get_or l.initial.sums q 0 + l.times * number_in l.counts q);
}
