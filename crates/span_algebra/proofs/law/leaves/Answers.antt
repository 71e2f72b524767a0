use Rattle.span_algebra.proofs.TreeCounts.{leaf-automata}
use Rattle.span_algebra.proofs.law.leaves.Goals as goal

pub returns : goal.returns
returns c = leaf-automata
