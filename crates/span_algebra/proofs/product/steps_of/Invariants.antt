use Rattle.std.proofs.Common.{[]}
use Rattle.marker_nfa.specs.Parts.{Adds}
use Rattle.marker_nfa.proofs.Adding.{EachBefore}
use Rattle.span_algebra.specs.Products.{IsPairStepOf}
use Rattle.span_algebra.proofs.product.steps_of.Given as goal

abbrev pub invariant-loop-class : goal.invariant-loop-class
invariant-loop-class l = Adds [] l.steps.items (EachBefore (IsPairStepOf l.sides.left.now l.sides.right.now l.sides.meeting.now l.pair) l.classes l.class-index)
