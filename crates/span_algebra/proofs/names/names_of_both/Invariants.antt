use Rattle.std.proofs.Common.{◌≡◌, take}
use Rattle.span_algebra.specs.Renaming.{both_names}
use Rattle.span_algebra.proofs.names.names_of_both.Given as goal

abbrev pub invariant-loop-v : goal.invariant-loop-v
invariant-loop-v l = l.names ≡ both_names l.left (take l.v l.right)
