use Rattle.marker_dfa.proofs.Bundling.{ReadersUpTo}
use Rattle.marker_dfa.proofs.bundles.readers_of.Given as goal

abbrev pub invariant-loop-index : goal.invariant-loop-index
invariant-loop-index l = ReadersUpTo l.bundles l.byte l.index l.places.items
