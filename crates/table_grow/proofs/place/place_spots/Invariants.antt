use Rattle.std.proofs.Common.{◌≡◌, take}
use Rattle.table_grow.specs.Filling.{Assigns}
use Rattle.table_grow.proofs.place.place_spots.Given as goal

abbrev pub invariant-loop-index : goal.invariant-loop-index
invariant-loop-index l = record {
  all : Assigns l.fn.filling l.filling (take l.index l.ids);
  same : l.filling ≡ record l.fn.filling { filler = l.filling.filler };
}
