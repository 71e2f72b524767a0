use Rattle.span_algebra.proofs.TreeAutomata.{counts-by-any}
use Rattle.span_algebra.proofs.law.counts.Goals as goal

pub returns : goal.returns
returns c = counts-by-any
