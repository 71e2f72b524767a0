use Rattle.span_algebra.proofs.TreeAutomata.{one-automaton}
use Rattle.span_algebra.proofs.law.trees.Goals as goal

pub returns : goal.returns
returns c = one-automaton
