use Rattle.std.proofs.Common.{◌≡◌, ℕ, ◌-◌, ◌<◌, ◌≤◌, get_or}
use Rattle.distinct_items.proofs.renumbering.follow.Given as goal

abbrev pub invariant-loop-number : goal.invariant-loop-number
invariant-loop-number l = record {
  before : (k : ℕ) → k < l.number-index → get_or l.numbers k 0 ≡ get_or l.marks (get_or l.initial.numbers k 0) 0 - 1;
  ahead : (k : ℕ) → l.number-index ≤ k → get_or l.numbers k 0 ≡ get_or l.initial.numbers k 0;
}
