-- The fields of `Others` as contracts see them.
use Rattle.node_store.specs.Others.{OtherNodes}
use Rattle.node_store.specs.declared.others.Others.TheInside.{Inside}

abbrev pub others_of : Inside → OtherNodes
others_of o = record { slots = o.table; late = o.late; indices = o.indices.items }
