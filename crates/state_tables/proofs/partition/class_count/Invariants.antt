use Rattle.std.proofs.Common.{ℕ, ◌<◌, get_or}
use Rattle.state_tables.proofs.partition.class_count.Given as goal

abbrev pub invariant-loop-class : goal.invariant-loop-class
invariant-loop-class l = (p : ℕ) → p < l.class-index → get_or l.classes p 0 < l.count
