use Rattle.std.proofs.Common.{◌≡◌, bit_or, drop, length}
use Rattle.marker_dfa.specs.Deterministic.{marks_of}
use Rattle.state_tables.specs.StateSet.{number_of_words}
use Rattle.state_tables.specs.Table.{reach_by_marks}
use Rattle.state_tables.proofs.one_byte.byte_row.Given as goal

abbrev pub invariant-loop-mark : goal.invariant-loop-mark
invariant-loop-mark l = record {
  width : length l.words ≡ length l.initial.words;
  so_far : bit_or (number_of_words l.words) (reach_by_marks l.dfa l.p l.byte (drop l.mark-index l.mark-items)) ≡ reach_by_marks l.dfa l.p l.byte (marks_of l.dfa l.p l.byte);
}
