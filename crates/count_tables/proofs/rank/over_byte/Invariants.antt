use Rattle.marker_dfa.specs.Deterministic.{marks_of}
use Rattle.count_tables.proofs.RankParts.{IsSummed, onward}
use Rattle.count_tables.proofs.rank.over_byte.Given as goal

abbrev pub invariant-loop-other : goal.invariant-loop-other
invariant-loop-other l = IsSummed (onward l.dfa l.state l.byte l.after) l.mark (marks_of l.dfa l.state l.byte) l.other-index l.number
