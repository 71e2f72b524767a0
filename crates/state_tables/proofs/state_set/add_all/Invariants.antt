use Rattle.std.proofs.Common.{◌≡◌, ℕ, ◌<◌, ◌≤◌, ◌^◌, bit_or, get_or, length}
use Rattle.state_tables.proofs.state_set.add_all.Given as goal

abbrev pub invariant-loop-index : goal.invariant-loop-index
invariant-loop-index l = record {
  low : (k : ℕ) → get_or l.initial.words k 0 < 2 ^ 64;
  width : length l.words ≡ length l.initial.words;
  before : (k : ℕ) → k < l.index → get_or l.words k 0 ≡ bit_or (get_or l.initial.words k 0) (get_or l.others k 0);
  ahead : (k : ℕ) → l.index ≤ k → get_or l.words k 0 ≡ get_or l.initial.words k 0;
}
