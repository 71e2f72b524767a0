-- A cache that is searched before the other entries.
use Rattle.std.specs.Prelude.{List, Option, IfSome, All, Contains}
use Rattle.pair_memo.specs.Entries.{Entry}

-- the entry in each slot, if there is one, is one of these
abbrev pub AreAmong : List (Option Entry) → List Entry → Type 0
AreAmong slots es = All (λ slot. IfSome slot (Contains es)) slots
