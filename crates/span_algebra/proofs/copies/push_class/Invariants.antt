use Rattle.marker_nfa.specs.Parts.{Adds}
use Rattle.marker_nfa.proofs.Adding.{EachBefore}
use Rattle.span_algebra.specs.Making.{IsEdgeBy}
use Rattle.span_algebra.proofs.copies.push_class.Given as goal

abbrev pub invariant-loop-mark : goal.invariant-loop-mark
invariant-loop-mark l = Adds l.fn.edges l.edges (EachBefore (IsEdgeBy l.copy.dfa.now l.copy.places.now l.from l.copy.base l.state l.class) l.mark-items l.mark-index)
