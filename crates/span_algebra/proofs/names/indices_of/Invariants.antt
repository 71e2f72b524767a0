use Rattle.std.proofs.Common.{take}
use Rattle.span_algebra.specs.Making.{AreIndicesOf}
use Rattle.span_algebra.proofs.names.indices_of.Given as goal

abbrev pub invariant-loop-v : goal.invariant-loop-v
invariant-loop-v l = AreIndicesOf (take l.v l.to) l.from l.places.items
