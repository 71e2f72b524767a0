-- The nodes that no link leads to.
use Rattle.std.specs.Prelude.{◌≡◌, ℕ, suc, List, [], ◌∷◌, ◌++◌, Option, length, set, slice_get, IfSome, None, Some}
use Rattle.node_store.specs.declared.narrow.Narrow.{Narrow}
use Rattle.node_store.specs.declared.node_table.Slot.{Slot}
use Rattle.node_store.specs.Narrow.{hash_of}
use Rattle.node_store.specs.declared.node_table.Search.{Search}
use Rattle.node_store.specs.declared.node_table.Search.TheVariants.{At, Absent}
use Rattle.node_store.specs.NodeTable.{AreWithin, IsFree, IsNotFound, home_of}
use Rattle.node_store.specs.SearchTree.{IsAbsent}

-- what a contract sees of `Others`: the slots of a hash table, the late nodes, which it has no room for, and their indices
pub record OtherNodes : Type 0 where
  pub slots : List Slot
  pub late : List Narrow
  pub indices : List ℕ

-- each index is that of one of the nodes, and for a late node it is its own
pub record ArePlaced (all : List Narrow) (o : OtherNodes) : Type 0 where
  pub within : AreWithin o.slots (length all)
  pub as_long : length o.indices ≡ length o.late
  pub placed : (k : ℕ) (n : Narrow) → slice_get o.late k ≡ Some n → (i : ℕ) × ((slice_get o.indices k ≡ Some i) × (slice_get all i ≡ Some n))

-- node n with index i has a slot from now on, or else is late
abbrev pub IsAdded : OtherNodes → Option ℕ → Narrow → ℕ → OtherNodes → Type 0
IsAdded old (Some s) n i new = (new.slots ≡ set old.slots s (record { hash = hash_of n; link = suc i })) × (new.late ≡ old.late) × (new.indices ≡ old.indices)
IsAdded old None n i new = (new.slots ≡ old.slots) × (new.late ≡ old.late ++ n ∷ []) × (new.indices ≡ old.indices ++ i ∷ [])

-- where n is among the others, or which slot is free for it
abbrev pub IsOtherSearch : List Narrow → OtherNodes → Narrow → Search → Type 0
IsOtherSearch all o n (At i) = slice_get all i ≡ Some n
IsOtherSearch all o n (Absent slot) = IsNotFound all o.slots n × IsAbsent o.late n × IfSome slot (IsFree o.slots (home_of (length o.slots) (hash_of n)))

-- where n is among the late ones: this index is the one of n's
abbrev pub IsLateSearch : OtherNodes → Narrow → Option ℕ → Search → Type 0
IsLateSearch o n slot (At i) = (k : ℕ) × ((slice_get o.late k ≡ Some n) × (slice_get o.indices k ≡ Some i))
IsLateSearch o n slot (Absent free) = (free ≡ slot) × IsAbsent o.late n
