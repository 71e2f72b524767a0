use Rattle.std.proofs.Common.{◌≡◌, ℕ, ◌<◌}
use Rattle.state_tables.specs.Coded.{coded_at}
use Rattle.state_tables.proofs.table_rows.are_same.Given as goal

abbrev pub invariant-loop-row : goal.invariant-loop-row
invariant-loop-row l = (k : ℕ) → k < l.row → coded_at l.rows k ≡ coded_at l.others k
