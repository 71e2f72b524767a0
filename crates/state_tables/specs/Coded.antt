-- How rows are stored: each has a number for its unmarked step and the index of its marked set, so that rows with one set
-- have it once. The words of the sets follow one another.
use Rattle.std.specs.Prelude.{ℕ, zero, suc, List, [], ◌∷◌, Option, Some, None, ◌++◌, drop, map, slice_index_or, take}
use Rattle.state_tables.specs.StateSet.{number_of_words}
use Rattle.state_tables.specs.Table.{Row, row_at}
use Rattle.state_tables.specs.declared.table_rows.CodedRow.{CodedRow}

-- 0 for no state, and otherwise one more than the state
abbrev pub code_of : Option ℕ → ℕ
code_of None = 0
code_of (Some q) = suc q

abbrev pub step_of : ℕ → Option ℕ
step_of zero = None
step_of (suc q) = Some q

-- the row with this code and these words
abbrev pub row_of : ℕ → List ℕ → Row
row_of code words = record { unmarked = step_of code; marked = number_of_words words }

-- the numbers of this many sets of `width` words, which follow one another
abbrev pub sets_of : ℕ → ℕ → List ℕ → List ℕ
sets_of width zero words = []
sets_of width (suc count) words = number_of_words (take width words) ∷ sets_of width count (drop width words)

-- sets, and how many words each has
pub record SetList : Type 0 where
  pub width : ℕ
  pub sets : List ℕ

-- one set more
abbrev pub with_set : SetList → ℕ → SetList
with_set list set = record list { sets = list.sets ++ set ∷ [] }

-- rows, and how many words the set of each has
pub record RowList : Type 0 where
  pub width : ℕ
  pub rows : List Row

-- one row more
abbrev pub with_row : RowList → Row → RowList
with_row list row = record list { rows = list.rows ++ row ∷ [] }

-- the row of each state is that of its class
abbrev pub table_of : List ℕ → List Row → List Row
table_of classes rows = map (row_at rows) classes

-- rows by the sets that they have
pub record GroupedRows : Type 0 where
  pub width : ℕ
  pub sets : List ℕ
  pub rows : List CodedRow

-- the row with this code and the set with this index
abbrev pub row_in : List ℕ → CodedRow → Row
row_in sets row = record { unmarked = step_of row.code; marked = slice_index_or sets row.set 0 }

-- the rows themselves
abbrev pub list_of : GroupedRows → RowList
list_of g = record { width = g.width; rows = map (row_in g.sets) g.rows }

abbrev pub no_coded : CodedRow
no_coded = record { code = 0; set = 0 }

-- the row with this index
abbrev pub coded_at : List CodedRow → ℕ → CodedRow
coded_at rows k = slice_index_or rows k no_coded

-- the set one before this index, or none for 0
abbrev pub set_beyond : List ℕ → ℕ → ℕ
set_beyond sets zero = 0
set_beyond sets (suc k) = slice_index_or sets k 0
