use Rattle.std.proofs.Common.{take}
use Rattle.table_grow.specs.Pieces.{AreMade, AreOwn, AreSpots, IsSpot}
use Rattle.table_grow.proofs.pieces.one_piece.Given as goal

abbrev pub invariant-loop-id : goal.invariant-loop-id
invariant-loop-id g l = record {
  made : AreMade l.finder.tables l.made.items;
  own : AreOwn l.own l.made.items;
  spots : AreSpots (IsSpot l.finder l.made.items) (take l.id-index l.ids) l.spots.items;
}
