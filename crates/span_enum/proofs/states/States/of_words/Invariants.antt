use Rattle.std.proofs.Common.{◌≡◌, ◌<◌, ◌≤◌, ℕ, length, get_or}
use Rattle.span_enum.proofs.states.States.of_words.Given as goal

abbrev pub invariant-loop-index : goal.invariant-loop-index
invariant-loop-index g l = record {
  size : length l.words ≡ g.row.N;
  copied : (k : ℕ) → k < l.index → get_or l.words k 0 ≡ get_or l.set k 0;
  left : (k : ℕ) → l.index ≤ k → get_or l.words k 0 ≡ 0;
}
