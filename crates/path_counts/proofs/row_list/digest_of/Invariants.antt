use Rattle.std.proofs.Common.{◌≡◌, drop}
use Rattle.path_counts.specs.Digest.{with_rows}
use Rattle.path_counts.proofs.row_list.digest_of.Given as goal

abbrev pub invariant-loop-p : goal.invariant-loop-p
invariant-loop-p l = with_rows l.all (drop l.p l.rows) ≡ with_rows 0 l.rows
