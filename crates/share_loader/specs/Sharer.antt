-- What a sharer keeps, and the bytes that it was fed.
use Rattle.std.specs.Prelude.{◌≡◌, ◌⊎◌, ℕ, ◌+◌, ◌<◌, ◌≤◌, ◌^◌, List, [], ◌++◌, length, Option, Some, None}
use Rattle.slp_model.specs.declared.Node.{Node}
use Rattle.share_loader.specs.Blocks.{Taken, IsTaken, ended_text, taken_text, blocks_cost}

-- what was cut into words, and the bytes behind it
pub record Kept : Type 0 where
  pub taken : Taken
  pub rest : List ℕ

-- before the first byte
abbrev pub unfed : Kept
unfed = record { taken = record { root = None; symbols = []; known = [] }; rest = [] }

-- the bytes that were fed
abbrev pub kept_text : List Node → Kept → List ℕ
kept_text ns k = taken_text ns k.taken ++ k.rest

-- it may be used with a store of these nodes
pub record IsKept (ns : List Node) (k : Kept) : Type 0 where
  pub taken : IsTaken ns k.taken
  pub few : length k.taken.symbols < 2 ^ 19
  pub short : length k.rest ≤ 10
  -- the last word has three bytes too, where it isn't the only one
  pub start : (3 ≤ length k.rest) ⊎ (taken_text ns k.taken ≡ [])
  pub limit : length (kept_text ns k) ≤ 2 ^ 48

-- how many symbols and bytes are to be paired
abbrev pub kept_count : Kept → ℕ
kept_count k = length k.taken.symbols + length k.rest

-- what the blocks that ended may have cost beside one node construction for each byte
abbrev pub kept_cost : List Node → Kept → ℕ
kept_cost ns k = blocks_cost (length (ended_text ns k.taken)) (length (taken_text ns k.taken))

-- a sharer that may be used with a store of these nodes; after an allocation failure it keeps nothing
abbrev pub IsSharer : List Node → Option Kept → Type 0
IsSharer ns None = Unit {0}
IsSharer ns (Some k) = IsKept ns k

-- the bytes that the sharer was fed
abbrev pub fed : List Node → Option Kept → List ℕ
fed ns None = []
fed ns (Some k) = kept_text ns k

-- how many symbols and bytes the sharer keeps
abbrev pub open_count : Option Kept → ℕ
open_count None = 0
open_count (Some k) = kept_count k

-- what its blocks may have cost beside one node construction for each byte
abbrev pub ended_cost : List Node → Option Kept → ℕ
ended_cost ns None = 0
ended_cost ns (Some k) = kept_cost ns k
