use Rattle.std.proofs.Common.{length}
use Rattle.marker_dfa.specs.Merging.{AreTargetsAlike}
use Rattle.marker_dfa.proofs.Merges.{AreRelatedUpTo}
use Rattle.marker_dfa.proofs.merging.are_cells_alike.Given as goal

abbrev pub invariant-loop-left : goal.invariant-loop-left
invariant-loop-left l = AreRelatedUpTo (AreTargetsAlike l.fn.into l.fn.merged l.fn.kept) (length l.yielded) l.fn.left.targets.items l.fn.right.targets.items
