-- What is appended while a table is made.
use Rattle.std.specs.Prelude.{◌≡◌, ◌<◌, ◌++◌, List, [], ◌∷◌, length, IfSome}
use Rattle.path_counts.specs.declared.count.Count.{Count}
use Rattle.path_counts.specs.Counting.{AreCounts, CountRow, IsComposedRow}

-- one row is appended, and P holds of it
pub record IsPushed (P : CountRow → Type 0) (old new : List CountRow) : Type 0 where
  pub row : CountRow
  pub rows : new ≡ old ++ row ∷ []
  pub holds : P row

-- some counts are appended, and P holds of them
pub record AreAppended (P : List Count → Type 0) (old new : List Count) : Type 0 where
  pub more : List Count
  pub counts : new ≡ old ++ more
  pub hold : P more

-- the row of two texts joined, from the row of the left text, within the states
pub record IsComposedWithin (right : List CountRow) (left row : CountRow) : Type 0 where
  pub composed : IsComposedRow right left row
  pub unmarked : IfSome row.unmarked (λ q. q < length right)
  pub counts : AreCounts (length right) row.counts
