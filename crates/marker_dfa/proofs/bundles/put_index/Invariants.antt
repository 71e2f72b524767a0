use Rattle.marker_dfa.proofs.BySource.{GainsUpTo}
use Rattle.marker_dfa.proofs.bundles.put_index.Given as goal

abbrev pub invariant-loop-source : goal.invariant-loop-source
invariant-loop-source l = GainsUpTo l.fn.by_source l.by_source l.sources l.index l.source-index
