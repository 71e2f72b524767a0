use Rattle.std.proofs.Common.{◌≡◌, ◌+◌, ◌≤◌, drop}
use Rattle.path_counts.specs.Paths.{most, stopped}
use Rattle.count_tables.specs.Number.{endings, weighted}
use Rattle.count_tables.proofs.number.ended.Given as goal

abbrev pub invariant-loop-count : goal.invariant-loop-count
invariant-loop-count l = record {
  low : l.sum ≤ most;
  whole : stopped (l.sum + weighted (endings l.dfa) (drop l.count-index l.counts)) ≡ stopped (weighted (endings l.dfa) l.counts);
}
