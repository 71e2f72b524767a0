-- The sets of a table, in whichever form they are stored, and the rows that have them.
use Rattle.std.specs.Prelude.{ℕ, ◌<◌, List, length}
use Rattle.state_tables.specs.Coded.{SetList, coded_at}
use Rattle.state_tables.specs.declared.table_rows.CodedRow.{CodedRow}
use Rattle.state_tables.specs.declared.table_sets.TableSets.{TableSets}
use Rattle.state_tables.specs.declared.table_sets.TableSets.TheVariants.{Own, Shared}

abbrev pub sets_in : TableSets → SetList
sets_in (Own sets) = sets
sets_in (Shared sets) = sets

-- each row has one of the sets
abbrev pub HaveSets : List ℕ → List CodedRow → Type 0
HaveSets sets rows = (k : ℕ) → k < length rows → (coded_at rows k).set < length sets
