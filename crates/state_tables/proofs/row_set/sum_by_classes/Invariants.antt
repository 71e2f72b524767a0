use Rattle.std.proofs.Common.{◌≡◌, ◌*◌, ◌%◌, ◌^◌, get_or}
use Rattle.state_tables.specs.Coded.{coded_at, row_in}
use Rattle.state_tables.specs.Digest.{row_number}
use Rattle.state_tables.proofs.ClassWeights.{sum_below}
use Rattle.state_tables.proofs.row_set.sum_by_classes.Given as goal

abbrev pub invariant-loop-class : goal.invariant-loop-class
invariant-loop-class l = l.sum ≡ sum_below (λ k. get_or l.weights k 0 * row_number l.sets.width (row_in l.sets.sets (coded_at l.rows k))) l.class % 2 ^ 64
