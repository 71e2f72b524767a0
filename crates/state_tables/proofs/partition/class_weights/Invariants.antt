use Rattle.std.proofs.Common.{◌≡◌, ℕ, ◌<◌, ◌%◌, ◌^◌, get_or, length, take}
use Rattle.state_tables.specs.Weights.{weight_of, weighted}
use Rattle.state_tables.proofs.ClassWeights.{one_at}
use Rattle.state_tables.proofs.partition.class_weights.Given as goal

abbrev pub invariant-loop-class : goal.invariant-loop-class
invariant-loop-class l = record {
  next : l.weight ≡ weight_of l.class-index % 2 ^ 64;
  within : (p : ℕ) → p < length l.classes → get_or l.classes p 0 < length l.weights.items;
  added : (k : ℕ) → k < length l.weights.items → get_or l.weights.items k 0 ≡ weighted (one_at k) 0 (take l.class-index l.classes) % 2 ^ 64;
}
