use Rattle.marker_dfa.proofs.BySource.{AreNone}
use Rattle.marker_dfa.proofs.bundles.empty_lists.Given as goal

abbrev pub invariant-loop-state : goal.invariant-loop-state
invariant-loop-state l = AreNone l._state l.lists.items
