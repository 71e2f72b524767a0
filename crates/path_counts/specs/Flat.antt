-- The rows of a counting table, where the counts of all rows are in one list.
use Rattle.std.specs.Prelude.{◌≤◌, List, length, map, All, slice_range}
use Rattle.path_counts.specs.declared.count.Count.{Count}
use Rattle.path_counts.specs.declared.row_list.Row.{Row}
use Rattle.path_counts.specs.Counting.{CountRow}

-- the row, whose counts are among all
abbrev pub row_of : List Count → Row → CountRow
row_of counts r = record { unmarked = r.unmarked; counts = slice_range counts r.start r.end }

abbrev pub rows_of : List Row → List Count → List CountRow
rows_of rows counts = map (row_of counts) rows

-- where the row's counts are, is a part of all
pub record IsWithin (counts : List Count) (r : Row) : Type 0 where
  pub order : r.start ≤ r.end
  pub within : r.end ≤ length counts

abbrev pub AreWithin : List Row → List Count → Type 0
AreWithin rows counts = All (IsWithin counts) rows
