-- States by classes, with a row for each class.
use Rattle.std.specs.Prelude.{◌≡◌, ℕ, ◌<◌, ◌≤◌, true, List, length, Some, slice_index_or}
use Rattle.state_tables.specs.StateSet.{member, word_count}
use Rattle.state_tables.specs.Table.{Row, row_at}
use Rattle.state_tables.specs.Coded.{GroupedRows, RowList, list_of, table_of}
use Rattle.state_tables.specs.Digest.{digest_of}
use Rattle.state_tables.specs.RowSet.{IsRowAt}

-- the rows reach only the first n states
pub record AreWithin (n : ℕ) (rows : List Row) : Type 0 where
  pub unmarked_within : (k q : ℕ) → (row_at rows k).unmarked ≡ Some q → q < n
  pub marked_within : (k q : ℕ) → member (row_at rows k).marked q ≡ true → q < n

-- each state has a row, and these reach only the states
pub record IsClassed (classes : List ℕ) (list : RowList) : Type 0 where
  pub few : length classes ≤ 1024
  pub width : list.width ≡ word_count (length classes)
  pub no_more : length list.rows ≤ length classes
  pub classed : (p : ℕ) → p < length classes → slice_index_or classes p 0 < length list.rows
  pub rows_within : AreWithin (length classes) list.rows

-- the first n rows have these indices in a list
pub record AreRowsAt (row : ℕ → Row) (n states : ℕ) (places : List ℕ) (list : RowList) : Type 0 where
  pub long : length places ≡ n
  pub few : length list.rows ≤ n
  pub placed : (k : ℕ) → k < n → IsRowAt list (row k) (slice_index_or places k 0)
  pub rows_within : AreWithin states list.rows

-- the sets have only the first n states
abbrev pub AreSetsWithin : ℕ → List ℕ → Type 0
AreSetsWithin n sets = (k q : ℕ) → member (slice_index_or sets k 0) q ≡ true → q < n

-- each state has a row, and the rows and all sets reach only the states
pub record AreClassed (classes : List ℕ) (g : GroupedRows) : Type 0 where
  pub states : IsClassed classes (list_of g)
  pub few_sets : length g.sets ≤ length classes
  pub sets_within : AreSetsWithin (length classes) g.sets

-- what holds of the fields of each table
pub record IsInClasses (classes : List ℕ) (g : GroupedRows) (digest : ℕ) : Type 0 where
  pub classed : AreClassed classes g
  pub digest_is : digest ≡ digest_of (table_of classes (list_of g).rows)
