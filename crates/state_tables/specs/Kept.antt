-- The fields of `Tables` as contracts see them.
use Rattle.std.specs.Prelude.{◌-◌, vec_len, vec_capacity}
use Rattle.state_tables.specs.Dictionary.{Dictionary}
use Rattle.state_tables.specs.declared.tables.Tables.TheInside.{Inside}

abbrev pub view_of : Inside → Dictionary
view_of t = record { states = t.states; kept = t.kept; numbers = t.numbers.items; room = vec_capacity t.numbers - vec_len t.numbers }
