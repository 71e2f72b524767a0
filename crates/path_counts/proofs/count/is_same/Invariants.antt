use Rattle.std.proofs.Common.{◌≡◌, ◌<◌, ℕ, get_or}
use Rattle.path_counts.specs.declared.count.Count.{Count}
use Rattle.path_counts.proofs.count.is_same.Given as goal

abbrev pub invariant-loop-index : goal.invariant-loop-index
invariant-loop-index l = (k : ℕ) (d : Count) → k < l.index → get_or l.counts k d ≡ get_or l.others k d
