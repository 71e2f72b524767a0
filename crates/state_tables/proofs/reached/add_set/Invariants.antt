use Rattle.std.proofs.Common.{◌≡◌, ◌*◌, bit_or, drop}
use Rattle.state_tables.specs.StateSet.{number_of_words}
use Rattle.state_tables.specs.Table.{reach}
use Rattle.state_tables.specs.Coded.{list_of, table_of}
use Rattle.state_tables.specs.Reached.{IsCollecting}
use Rattle.state_tables.proofs.reached.add_set.Given as goal

abbrev pub invariant-loop-index : goal.invariant-loop-index
invariant-loop-index l = record {
  collecting : IsCollecting l.classes (list_of l.rows) l.words l.taken;
  so_far : bit_or (number_of_words l.words) (reach (number_of_words (drop l.index l.set)) 0 (drop (l.index * 64) (table_of l.classes (list_of l.rows).rows)))
      ≡ bit_or (number_of_words l.initial.words) (reach (number_of_words l.set) 0 (table_of l.classes (list_of l.rows).rows));
}
