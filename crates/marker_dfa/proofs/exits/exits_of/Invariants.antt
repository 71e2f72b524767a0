use Rattle.std.proofs.Common.{◌-◌, length}
use Rattle.marker_dfa.proofs.BySource.{LeavingUpTo}
use Rattle.marker_dfa.proofs.exits.exits_of.Given as goal

abbrev pub invariant-loop-state : goal.invariant-loop-state
invariant-loop-state l = LeavingUpTo l.bundles l.by_source l.from l.next l.leaving.items

abbrev pub decreases-loop-state : goal.decreases-loop-state
decreases-loop-state l = length l.from - l.next
