-- What rows reach, collected in one set.
use Rattle.std.specs.Prelude.{◌≡◌, ℕ, true, List, length, bit_or}
use Rattle.state_tables.specs.StateSet.{member, number_of_words}
use Rattle.state_tables.specs.Table.{reached_of, row_at}
use Rattle.state_tables.specs.Coded.{RowList}
use Rattle.state_tables.specs.Classed.{IsClassed}

-- words for a set of states, and for a set of rows
pub record HasRoom (classes : List ℕ) (list : RowList) (words taken : List ℕ) : Type 0 where
  pub states : IsClassed classes list
  pub width : length words ≡ list.width
  pub marks : length taken ≡ list.width

-- the set has all that the taken rows reach
pub record IsCollecting (classes : List ℕ) (list : RowList) (words taken : List ℕ) : Type 0 where
  pub room : HasRoom classes list words taken
  pub has_taken : (k : ℕ) → member (number_of_words taken) k ≡ true → bit_or (number_of_words words) (reached_of (row_at list.rows k)) ≡ number_of_words words
