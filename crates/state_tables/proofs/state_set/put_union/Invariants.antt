use Rattle.std.proofs.Common.{◌≡◌, ℕ, ◌<◌, bit_or, get_or, length}
use Rattle.state_tables.proofs.state_set.put_union.Given as goal

abbrev pub invariant-loop-index : goal.invariant-loop-index
invariant-loop-index l = record {
  width : length l.words ≡ length l.initial.words;
  before : (k : ℕ) → k < l.index → get_or l.words k 0 ≡ bit_or (get_or l.first k 0) (get_or l.second k 0);
}
