use Rattle.std.proofs.Common.{◌-◌}
use Rattle.span_algebra.specs.Products.{AreFound}
use Rattle.span_algebra.specs.TreeAutomaton.{JoinStep, join_size}
use Rattle.span_algebra.proofs.exploring.explore.Given as goal

abbrev pub invariant-pairs : goal.invariant-pairs
invariant-pairs l = AreFound l.most l.left.dfa.now l.right.dfa.now (join_size l.left.dfa.now) (JoinStep l.left.dfa.now l.left.names.now l.right.dfa.now l.right.names.now) l.classes l.done l.pairs.items l.edges

abbrev pub decreases-pairs : goal.decreases-pairs
decreases-pairs l = l.most - l.done
