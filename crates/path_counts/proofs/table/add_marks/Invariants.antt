use Rattle.std.proofs.Common.{◌≡◌, ℕ, ◌+◌, ◌<◌, ◌≤◌, length, get_or, drop}
use Rattle.path_counts.specs.Paths.{most, stopped}
use Rattle.path_counts.specs.Counting.{number_by_marks}
use Rattle.path_counts.proofs.table.add_marks.Given as goal

abbrev pub invariant-loop-mark : goal.invariant-loop-mark
invariant-loop-mark l = record {
  low : (q : ℕ) → get_or l.sums q 0 ≤ most;
  sum : (q : ℕ) → q < length l.sums → stopped (get_or l.sums q 0 + number_by_marks l.dfa l.p l.byte q (drop l.mark-index l.mark-items)) ≡ stopped (get_or l.initial.sums q 0 + number_by_marks l.dfa l.p l.byte q l.mark-items);
}
