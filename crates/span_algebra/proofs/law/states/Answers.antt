use Rattle.span_algebra.proofs.TreeCounts.{count-is-states}
use Rattle.span_algebra.proofs.law.states.Goals as goal

pub returns : goal.returns
returns c = count-is-states
