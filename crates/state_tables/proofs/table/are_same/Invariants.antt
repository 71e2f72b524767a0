use Rattle.std.proofs.Common.{◌≡◌, ℕ, ◌<◌}
use Rattle.state_tables.specs.Table.{row_at}
use Rattle.state_tables.specs.Coded.{list_of, table_of}
use Rattle.state_tables.proofs.table.are_same.Given as goal

abbrev pub invariant-loop-p : goal.invariant-loop-p
invariant-loop-p l = (k : ℕ) → k < l.p → row_at (table_of l.classes (list_of l.rows).rows) k ≡ row_at (table_of l.others (list_of l.other_rows).rows) k
