-- A hash table of the indices of nodes.
use Rattle.std.specs.Prelude.{◌≡◌, ◌≢◌, ℕ, suc, ◌+◌, ◌-◌, ◌*◌, ◌/◌, ◌%◌, ◌^◌, ◌<◌, ◌≤◌, List, length, slice_get, get_or, IfSome, Some}
use Rattle.node_store.specs.declared.narrow.Narrow.{Narrow}
use Rattle.node_store.specs.declared.node_table.Slot.{Slot}
use Rattle.node_store.specs.declared.node_table.Search.{Search}
use Rattle.node_store.specs.declared.node_table.Search.TheVariants.{At, Absent}
use Rattle.node_store.specs.Narrow.{hash_of}

-- the first slot in which a node with this hash is searched, among this many: no hash leads to the last 256
abbrev pub home_of : ℕ → ℕ → ℕ
home_of slots hash = (hash * (slots - 256)) % 2 ^ 64 / 2 ^ 32

-- one more than the index in a slot, or 0 if it is empty or isn't there
abbrev pub link_of : List Slot → ℕ → ℕ
link_of slots s = (get_or slots s (record { hash = 0; link = 0 })).link

-- these d slots are taken
abbrev pub AreTaken : List Slot → ℕ → ℕ → Type 0
AreTaken slots home d = (e : ℕ) → e < d → link_of slots (home + e) ≢ 0

-- node i, whose hash this is, has one of 256 slots, before any empty one
pub record HasSlot (slots : List Slot) (home hash i : ℕ) : Type 0 where
  pub d : ℕ
  pub near : d < 256
  pub here : slice_get slots (home + d) ≡ Some (record { hash = hash; link = suc i })
  pub taken : AreTaken slots home d

-- the same from the first slot of its hash on
abbrev pub IsFound : List Slot → ℕ → ℕ → Type 0
IsFound slots hash i = HasSlot slots (home_of (length slots) hash) hash i

-- this is the first empty one of 256 slots
pub record IsFree (slots : List Slot) (home s : ℕ) : Type 0 where
  pub d : ℕ
  pub near : d < 256
  pub is : s ≡ home + d
  pub inside : s < length slots
  pub empty : link_of slots s ≡ 0
  pub taken : AreTaken slots home d

-- the indices in slots are below n
abbrev pub AreWithin : List Slot → ℕ → Type 0
AreWithin slots n = (s : ℕ) → link_of slots s ≤ n

-- no node that is found is n
abbrev pub IsNotFound : List Narrow → List Slot → Narrow → Type 0
IsNotFound all slots n = (i : ℕ) → IsFound slots (hash_of n) i → slice_get all i ≢ Some n

-- where n is found, or which slot is free for it
abbrev pub IsSearch : List Narrow → List Slot → Narrow → Search → Type 0
IsSearch all slots n (At i) = slice_get all i ≡ Some n
IsSearch all slots n (Absent slot) = IsNotFound all slots n × IfSome slot (IsFree slots (home_of (length slots) (hash_of n)))

-- what is found in the old slots is found in the new ones
pub record AreMoved (old new : List Slot) : Type 0 where
  pub found : (hash i : ℕ) → IsFound old hash i → IsFound new hash i
  pub within : (n : ℕ) → AreWithin old n → AreWithin new n
