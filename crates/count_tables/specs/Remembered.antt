-- Remembered compositions: of two kept tables by their numbers, and the number of the composition.
use Rattle.std.specs.Prelude.{◌≡◌, ℕ, ◌<◌, List, [], length, slice_index_or, Contains}
use Rattle.pair_memo.specs.Entries.{Entry}
use Rattle.path_counts.specs.Counting.{CountRow, IsComposed}

-- the kept table of the third number is the composition of the kept tables of the first two
pub record IsTrueEntry (kept : List (List CountRow)) (e : Entry) : Type 0 where
  pub left : e.0.0 < length kept
  pub right : e.0.1 < length kept
  pub number : e.1 < length kept
  pub composed : IsComposed (slice_index_or kept e.0.0 []) (slice_index_or kept e.0.1 []) (slice_index_or kept e.1 [])

-- every entry is true of these tables
abbrev pub AreTrueEntries : List (List CountRow) → List Entry → Type 0
AreTrueEntries kept es = (e : Entry) → Contains es e → IsTrueEntry kept e

-- the kept tables stay under their numbers, and there may be more
pub record Extends (old new : List (List CountRow)) : Type 0 where
  pub more : (i : ℕ) → i < length old → i < length new
  pub same : (i : ℕ) → i < length old → slice_index_or new i [] ≡ slice_index_or old i []
