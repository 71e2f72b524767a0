use Rattle.std.proofs.Common.{[]}
use Rattle.marker_nfa.specs.Parts.{Adds}
use Rattle.span_algebra.proofs.ProductLaws.{EndBefore}
use Rattle.span_algebra.proofs.product.ends_of.Given as goal

abbrev pub invariant-loop-index : goal.invariant-loop-index
invariant-loop-index l = Adds [] l.ends.items (EndBefore l.sides.left.now l.sides.right.now l.sides.meeting.now l.pairs l.index)
