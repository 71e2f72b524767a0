use Rattle.std.proofs.Common.{◌≡◌, ◌<◌, ℕ}
use Rattle.path_counts.specs.Counting.{row_at}
use Rattle.path_counts.proofs.row_list.is_same_rows.Given as goal

abbrev pub invariant-loop-p : goal.invariant-loop-p
invariant-loop-p l = (k : ℕ) → k < l.p → row_at l.rows k ≡ row_at l.others k
