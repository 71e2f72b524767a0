use Rattle.std.proofs.Common.{◌≡◌, ℕ, ◌<◌, ◌*◌, ◌%◌, ◌^◌, get_or, length}
use Rattle.state_tables.proofs.ClassWeights.{one_at, sum_below}
use Rattle.state_tables.proofs.partition.merged_weights.Given as goal

abbrev pub invariant-loop-class : goal.invariant-loop-class
invariant-loop-class l = record {
  within : (k : ℕ) → k < length l.places → get_or l.places k 0 < length l.merged.items;
  added : (j : ℕ) → j < length l.merged.items → get_or l.merged.items j 0 ≡ sum_below (λ k. get_or l.weights k 0 * one_at j (get_or l.places k 0)) l.class % 2 ^ 64;
}
