use Rattle.marker_nfa.specs.Parts.{Adds}
use Rattle.marker_nfa.proofs.Adding.{EachBefore}
use Rattle.span_algebra.specs.Making.{IsEdgeOf}
use Rattle.span_algebra.proofs.copies.push_state.Given as goal

abbrev pub invariant-loop-class : goal.invariant-loop-class
invariant-loop-class l = Adds l.fn.edges l.edges (EachBefore (IsEdgeOf l.copy.dfa.now l.copy.places.now l.from l.copy.base l.state) l.classes l.class-index)
