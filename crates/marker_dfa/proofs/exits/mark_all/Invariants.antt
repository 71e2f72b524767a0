use Rattle.marker_dfa.proofs.BySource.{MarkedUpTo}
use Rattle.marker_dfa.proofs.exits.mark_all.Given as goal

abbrev pub invariant-loop-index : goal.invariant-loop-index
invariant-loop-index l = MarkedUpTo l.fn.leaving l.leaving l.indices l.index-index
