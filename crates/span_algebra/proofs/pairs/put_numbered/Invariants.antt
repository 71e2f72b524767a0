use Rattle.marker_nfa.specs.Parts.{Adds}
use Rattle.marker_nfa.proofs.Adding.{EachBefore}
use Rattle.span_algebra.specs.Pairs.{IsNumbered}
use Rattle.span_algebra.proofs.pairs.put_numbered.Given as goal

abbrev pub invariant-loop-step : goal.invariant-loop-step
invariant-loop-step l = Adds l.fn.edges l.edges (EachBefore (IsNumbered l.pairs) l.steps l.step-index)
