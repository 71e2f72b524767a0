use Rattle.marker_nfa.proofs.Adding.{EachBefore}
use Rattle.span_algebra.specs.Pairs.{Gains, IsTarget}
use Rattle.span_algebra.proofs.pairs.put_targets.Given as goal

abbrev pub invariant-loop-step : goal.invariant-loop-step
invariant-loop-step l = Gains l.most (EachBefore IsTarget l.steps l.step-index) l.fn.pairs.items l.pairs.items
