use Rattle.std.proofs.Common.{drop}
use Rattle.marker_dfa.specs.Deterministic.{marks_of}
use Rattle.count_tables.proofs.ByteChoice.{IsLeft}
use Rattle.count_tables.proofs.nth.over_byte.Given as goal

abbrev pub invariant-loop-mark : goal.invariant-loop-mark
invariant-loop-mark l = IsLeft l.dfa l.from.state l.byte l.after (drop l.mark-index (marks_of l.dfa l.from.state l.byte)) l.from.index l.index
