use Rattle.std.proofs.Common.{◌≡◌, ℕ, bit_or, drop}
use Rattle.std.specs.Int.{bit_at}
use Rattle.state_tables.specs.StateSet.{number_of_words}
use Rattle.state_tables.specs.Table.{reach}
use Rattle.state_tables.specs.Coded.{list_of, table_of}
use Rattle.state_tables.specs.Reached.{IsCollecting}
use Rattle.state_tables.proofs.reached.add_word.Given as goal

abbrev pub invariant-loop-rest : goal.invariant-loop-rest
invariant-loop-rest l = record {
  collecting : IsCollecting l.classes (list_of l.rows) l.words l.taken;
  within : (b : ℕ) → bit_at l.rest b ≡ 1 → bit_at l.word b ≡ 1;
  so_far : bit_or (number_of_words l.words) (reach l.rest 0 (drop l.first (table_of l.classes (list_of l.rows).rows)))
      ≡ bit_or (number_of_words l.initial.words) (reach l.word 0 (drop l.first (table_of l.classes (list_of l.rows).rows)));
}

abbrev pub decreases-loop-rest : goal.decreases-loop-rest
decreases-loop-rest l = l.rest
