-- Lengths of texts, of which the long ones are in a list of their own.
use Rattle.std.specs.Prelude.{ℕ, ◌-◌, ◌^◌, ◌<◌, ◌≤◌, nat_lt, List, length, map, get_or, All, if◌then◌else◌}

-- what an entry stands for: a length below 2^31, or the long length whose index is 2^31 less
abbrev pub length_of : List ℕ → ℕ → ℕ
length_of long entry = if nat_lt entry (2 ^ 31) then entry else get_or long (entry - 2 ^ 31) 0

abbrev pub lengths_of : List ℕ → List ℕ → List ℕ
lengths_of entries long = map (length_of long) entries

-- the long length of an entry is there
abbrev pub IsEntry : List ℕ → ℕ → Type 0
IsEntry long entry = 2 ^ 31 ≤ entry → entry - 2 ^ 31 < length long

abbrev pub AreEntries : List ℕ → List ℕ → Type 0
AreEntries entries long = All (IsEntry long) entries

-- what a contract sees of `Lengths`: the lengths, for how many more entries there is room, the number of long lengths,
-- and for how many more of them there is room
pub record LengthList : Type 0 where
  pub all : List ℕ
  pub room : ℕ
  pub long : ℕ
  pub long_room : ℕ

-- any length may be added
pub record HasRoom (l : LengthList) : Type 0 where
  pub entries : 0 < l.room
  pub long : 0 < l.long_room
  pub few : l.long < 2 ^ 31
