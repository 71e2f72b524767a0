use Rattle.std.proofs.Common.{◌≡◌, ℕ, ◌<◌, length, All}
use Rattle.path_counts.specs.Counting.{row_at}
use Rattle.path_counts.specs.Pushed.{IsComposedWithin}
use Rattle.path_counts.proofs.table.composed_rows.Given as goal

abbrev pub invariant-loop-p : goal.invariant-loop-p
invariant-loop-p l = record {
  long : length l.rows ≡ l.p;
  sums : length l.sums ≡ length l.right;
  clear : All (λ n. n ≡ 0) l.sums;
  rows : (p : ℕ) → p < l.p → IsComposedWithin l.right (row_at l.left p) (row_at l.rows p);
}
