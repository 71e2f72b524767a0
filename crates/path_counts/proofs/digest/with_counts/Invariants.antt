use Rattle.std.proofs.Common.{◌≡◌, drop}
use Rattle.path_counts.specs.Digest.{with_counts}
use Rattle.path_counts.proofs.digest.with_counts.Given as goal

abbrev pub invariant-loop-count : goal.invariant-loop-count
invariant-loop-count l = with_counts l.all (drop l.count-index l.counts) ≡ with_counts l.fn.digest l.counts
