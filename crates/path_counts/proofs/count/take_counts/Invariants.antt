use Rattle.std.proofs.Common.{◌≡◌, ℕ, ◌<◌, ◌≤◌, get_or}
use Rattle.path_counts.specs.Counting.{AreCounts, number_in}
use Rattle.path_counts.specs.Pushed.{AreAppended}
use Rattle.path_counts.proofs.count.take_counts.Given as goal

abbrev pub invariant-loop-state : goal.invariant-loop-state
invariant-loop-state l = record {
  counts : AreAppended (λ cs. AreCounts l.state cs × ((q : ℕ) → q < l.state → number_in cs q ≡ get_or l.initial.sums q 0)) l.initial.counts.items l.counts.items;
  clear : (q : ℕ) → q < l.state → get_or l.sums q 0 ≡ 0;
  rest : (q : ℕ) → l.state ≤ q → get_or l.sums q 0 ≡ get_or l.initial.sums q 0;
}
