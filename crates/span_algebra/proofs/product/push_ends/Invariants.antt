use Rattle.marker_nfa.specs.Parts.{Adds}
use Rattle.marker_nfa.proofs.Adding.{EachBefore}
use Rattle.span_algebra.specs.Products.{IsPairEndBy}
use Rattle.span_algebra.proofs.product.push_ends.Given as goal

abbrev pub invariant-loop-joint : goal.invariant-loop-joint
invariant-loop-joint l = Adds l.fn.ends.items l.ends.items (EachBefore (IsPairEndBy l.index) l.joint-items l.joint-index)
