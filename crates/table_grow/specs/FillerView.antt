-- The fields of `Filler` as contracts see them.
use Rattle.std.specs.Prelude.{map}
use Rattle.state_tables.specs.Coded.{step_of}
use Rattle.table_grow.specs.Assignment.{Assignment}
use Rattle.table_grow.specs.declared.filler.Filler.TheInside.{Inside}

-- an entry is stored as one more than the number of its table, or as 0 if it is empty
abbrev pub view_of : Inside → Assignment
view_of f = record { known = f.known; places = map step_of f.places.items }
