use Rattle.std.proofs.Common.{length}
use Rattle.marker_dfa.specs.Merging.{AreCellsAlike}
use Rattle.marker_dfa.proofs.Merges.{AreRelatedUpTo}
use Rattle.marker_dfa.proofs.merging.are_rows_alike.Given as goal

abbrev pub invariant-loop-left : goal.invariant-loop-left
invariant-loop-left l = AreRelatedUpTo (AreCellsAlike l.fn.into l.fn.merged l.fn.kept) (length l.yielded) l.fn.left.cells.items l.fn.right.cells.items
