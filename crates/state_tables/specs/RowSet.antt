-- Sets and rows that are found by numbers.
use Rattle.std.specs.Prelude.{◌≡◌, ◌⊎◌, ℕ, ◌<◌, ◌≤◌, ◌++◌, [], ◌∷◌, List, length, slice_index_or}
use Rattle.state_tables.specs.StateSet.{words_of}
use Rattle.state_tables.specs.Table.{Row, row_at}
use Rattle.state_tables.specs.Coded.{RowList, SetList, coded_at, with_row}
use Rattle.state_tables.specs.declared.table_rows.CodedRow.{CodedRow}
use Rattle.state_tables.specs.Digest.{set_digest}
use Rattle.state_tables.specs.declared.slot.Slot.{Slot}
use Rattle.state_tables.specs.declared.slot.Slot.TheVariants.{Free, Taken}

-- each slot has one more than the index of one of the n rows, or 0
abbrev pub AreLinks : ℕ → List ℕ → Type 0
AreLinks n slots = (s : ℕ) → slice_index_or slots s 0 ≤ n

-- there is a row k, and it is this one
abbrev pub IsRowAt : RowList → Row → ℕ → Type 0
IsRowAt list row k = (k < length list.rows) × (row_at list.rows k ≡ row)

-- where the search for the row ends
abbrev pub IsCodedSlot : List CodedRow → CodedRow → Slot → Type 0
IsCodedSlot rows row (Taken k) = (k < length rows) × (coded_at rows k ≡ row)
IsCodedSlot rows row (Free s) = Unit

-- the rows are unchanged, or this one is added last
abbrev pub TakesRow : RowList → RowList → Row → Type 0
TakesRow old new row = (new ≡ old) ⊎ (new ≡ with_row old row)

-- each set has its digest, and each slot one more than the index of a set, or 0
pub record IsSetIndex (list : SetList) (digests slots : List ℕ) : Type 0 where
  pub as_long : length digests ≡ length list.sets
  pub digests_are : (k : ℕ) → k < length list.sets → slice_index_or digests k 0 ≡ set_digest (words_of list.width (slice_index_or list.sets k 0))
  pub within : (s : ℕ) → slice_index_or slots s 0 ≤ length list.sets

-- there is a set k, and it is this one
abbrev pub IsSetAt : List ℕ → ℕ → ℕ → Type 0
IsSetAt sets set k = (k < length sets) × (slice_index_or sets k 0 ≡ set)

-- where the search for the set ends
abbrev pub IsSetSlot : List ℕ → ℕ → Slot → Type 0
IsSetSlot sets set (Taken k) = IsSetAt sets set k
IsSetSlot sets set (Free s) = Unit

-- the sets are unchanged, or this one is added last
abbrev pub TakesSet : List ℕ → List ℕ → ℕ → Type 0
TakesSet old new set = (new ≡ old) ⊎ (new ≡ old ++ set ∷ [])
