use Rattle.std.proofs.Common.{◌≡◌, ℕ, ◌<◌, length, All}
use Rattle.marker_dfa.specs.Deterministic.{states_of}
use Rattle.path_counts.specs.Counting.{AreCounts, IsByteRow, counts_at, row_at}
use Rattle.path_counts.proofs.table.byte_rows.Given as goal

abbrev pub invariant-loop-p : goal.invariant-loop-p
invariant-loop-p l = record {
  long : length l.rows ≡ l.p;
  sums : length l.sums ≡ states_of l.dfa;
  clear : All (λ n. n ≡ 0) l.sums;
  rows : (p : ℕ) → p < l.p → IsByteRow l.dfa l.byte p (row_at l.rows p);
  counts : (p : ℕ) → p < l.p → AreCounts (states_of l.dfa) (counts_at l.rows p);
}
