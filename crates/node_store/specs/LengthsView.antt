-- The fields of `Lengths` as contracts see them.
use Rattle.std.specs.Prelude.{◌-◌, length, vec_len, vec_capacity}
use Rattle.node_store.specs.Lengths.{LengthList, lengths_of}
use Rattle.node_store.specs.declared.lengths.Lengths.TheInside.{Inside}

abbrev pub list_of : Inside → LengthList
list_of l = record { all = lengths_of l.entries.items l.long.items; room = vec_capacity l.entries - vec_len l.entries; long = length l.long.items; long_room = vec_capacity l.long - vec_len l.long }
