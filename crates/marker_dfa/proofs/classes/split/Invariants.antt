use Rattle.marker_dfa.specs.Making.{IsSplitUpTo}
use Rattle.marker_dfa.proofs.classes.split.Given as goal

abbrev pub invariant-loop-byte : goal.invariant-loop-byte
invariant-loop-byte l = IsSplitUpTo l.classes l.letters l.byte l.split
