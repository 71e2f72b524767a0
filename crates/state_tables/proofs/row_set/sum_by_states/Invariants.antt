use Rattle.std.proofs.Common.{◌≡◌, ◌%◌, ◌^◌, take}
use Rattle.state_tables.specs.Coded.{coded_at, row_in}
use Rattle.state_tables.specs.Digest.{row_number}
use Rattle.state_tables.specs.Weights.{weight_of, weighted}
use Rattle.state_tables.proofs.row_set.sum_by_states.Given as goal

abbrev pub invariant-loop-class : goal.invariant-loop-class
invariant-loop-class l = record {
  next : l.weight ≡ weight_of l.class-index % 2 ^ 64;
  added : l.sum ≡ weighted (λ k. row_number l.sets.width (row_in l.sets.sets (coded_at l.rows k))) 0 (take l.class-index l.classes) % 2 ^ 64;
}
