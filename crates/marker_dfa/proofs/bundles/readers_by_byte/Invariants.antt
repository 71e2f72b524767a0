use Rattle.marker_dfa.proofs.Bundling.{AllReadersUpTo}
use Rattle.marker_dfa.proofs.bundles.readers_by_byte.Given as goal

abbrev pub invariant-loop-byte : goal.invariant-loop-byte
invariant-loop-byte l = AllReadersUpTo l.bundles l.bytes l.byte-index l.by_byte.items
