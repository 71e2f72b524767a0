use Rattle.marker_nfa.specs.Parts.{Adds}
use Rattle.marker_nfa.proofs.Adding.{EachBefore}
use Rattle.span_algebra.specs.Products.{IsPairStepBy}
use Rattle.span_algebra.proofs.product.push_class.Given as goal

abbrev pub invariant-loop-joint : goal.invariant-loop-joint
invariant-loop-joint l = Adds l.fn.steps.items l.steps.items (EachBefore (IsPairStepBy l.sides.left.now l.sides.right.now l.pair l.class) l.joint-items l.joint-index)
