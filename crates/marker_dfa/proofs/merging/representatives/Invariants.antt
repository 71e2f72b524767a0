use Rattle.marker_dfa.proofs.Merges.{AreFoundFrom, AreNumbers}
use Rattle.marker_dfa.proofs.merging.representatives.Given as goal

abbrev pub invariant-own : goal.invariant-own
invariant-own l = AreNumbers l.state l.into.items

abbrev pub invariant-states : goal.invariant-states
invariant-states l = AreFoundFrom l.fn.dfa l.left l.into.items

abbrev pub decreases-states : goal.decreases-states
decreases-states l = l.left
