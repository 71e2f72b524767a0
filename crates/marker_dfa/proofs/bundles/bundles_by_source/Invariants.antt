use Rattle.marker_dfa.specs.Bundled.{automaton_in}
use Rattle.marker_dfa.proofs.BySource.{BySourceUpTo}
use Rattle.marker_dfa.proofs.bundles.bundles_by_source.Given as goal

abbrev pub invariant-loop-index : goal.invariant-loop-index
invariant-loop-index l = BySourceUpTo (automaton_in l.nfa) l.bundles l.index l.by_source.items
