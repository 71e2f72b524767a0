use Rattle.std.proofs.Common.{◌≡◌, ℕ, ◌<◌, get_or}
use Rattle.count_tables.specs.TextIndex.{number_over}
use Rattle.count_tables.proofs.part.fill_ways.Given as goal

abbrev pub invariant-loop-state : goal.invariant-loop-state
invariant-loop-state l = (q : ℕ) → q < l.state → get_or l.ways q 0 ≡ number_over l.table q l.after
