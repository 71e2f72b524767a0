use Rattle.marker_dfa.proofs.Renumbering.{KeptSoFar}
use Rattle.marker_dfa.proofs.merging.kept_of.Given as goal

abbrev pub invariant-loop-state : goal.invariant-loop-state
invariant-loop-state l = KeptSoFar l.into l.start l.state l.kept.items l.numbers.items
