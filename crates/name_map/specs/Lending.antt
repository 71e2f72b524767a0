-- The map after a mutable borrow of a value has ended.
use Rattle.std.specs.Prelude.{ℕ}
use Rattle.std.specs.Borrow.{Lends, MutBor, Fml, RattleType}
use Rattle.name_map.specs.Named.{Named, with_value}
use Rattle.name_map.specs.contracts.NameMap.{the_row}

-- the name at this index has the last value written through the reference
abbrev pub lends_value : (A : RattleType) → MutBor (Named A.Denot) → ℕ → MutBor A.Denot → Fml
lends_value A m index r = Lends (the_row A) A m r (with_value m.now index)
