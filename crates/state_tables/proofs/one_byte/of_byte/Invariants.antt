use Rattle.std.proofs.Common.{◌≡◌, ◌≤◌, length}
use Rattle.marker_dfa.specs.Deterministic.{states_of}
use Rattle.state_tables.specs.StateSet.{word_count}
use Rattle.state_tables.specs.Table.{byte_row}
use Rattle.state_tables.specs.Coded.{list_of}
use Rattle.state_tables.specs.Classed.{AreRowsAt, AreSetsWithin}
use Rattle.state_tables.proofs.one_byte.of_byte.Given as goal

abbrev pub invariant-loop-p : goal.invariant-loop-p
invariant-loop-p l = record {
  words : length l.words.items ≡ word_count (states_of l.dfa);
  width : l.set.width ≡ word_count (states_of l.dfa);
  few : length l.set.sets ≤ l.p;
  within : AreSetsWithin (states_of l.dfa) l.set.sets;
  placed : AreRowsAt (byte_row l.dfa l.byte) l.p (states_of l.dfa) l.classes.items (list_of l.set);
}
