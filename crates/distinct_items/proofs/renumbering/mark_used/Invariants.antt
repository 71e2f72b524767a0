use Rattle.std.proofs.Common.{take}
use Rattle.distinct_items.proofs.Marks.{AreMarked}
use Rattle.distinct_items.proofs.renumbering.mark_used.Given as goal

abbrev pub invariant-loop-number : goal.invariant-loop-number
invariant-loop-number l = AreMarked (take l.number-index l.numbers) l.marks
