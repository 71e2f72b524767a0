use Rattle.std.proofs.Common.{◌≡◌, ℕ, ◌<◌, length, get_or}
use Rattle.path_counts.specs.Paths.{stopped}
use Rattle.count_tables.specs.Number.{endings}
use Rattle.count_tables.proofs.nth.ways_to_end.Given as goal

abbrev pub invariant-loop-q : goal.invariant-loop-q
invariant-loop-q l = record {
  long : length l.ways.items ≡ l.q;
  each : (p : ℕ) → p < l.q → get_or l.ways.items p 0 ≡ stopped (endings l.dfa p);
}
