use Rattle.std.proofs.Common.{◌≡◌, ℕ, ◌<◌, get_or}
use Rattle.state_tables.proofs.partition.are_same.Given as goal

abbrev pub invariant-loop-index : goal.invariant-loop-index
invariant-loop-index l = record {
  none : l.different ≡ 0 → (k : ℕ) → k < l.index → get_or l.classes k 0 ≡ get_or l.others k 0;
  same : l.classes ≡ l.others → l.different ≡ 0;
}
