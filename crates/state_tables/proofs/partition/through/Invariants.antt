use Rattle.std.proofs.Common.{◌≡◌, ℕ, ◌<◌, get_or, length}
use Rattle.state_tables.proofs.partition.through.Given as goal

abbrev pub invariant-loop-p : goal.invariant-loop-p
invariant-loop-p l = record {
  long : length l.result.items ≡ length l.classes;
  moved : (k : ℕ) → k < l.p → get_or l.result.items k 0 ≡ get_or l.places (get_or l.classes k 0) 0;
}
