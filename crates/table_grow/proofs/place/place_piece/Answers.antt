use Rattle.std.proofs.Common.{sym, subst, List}
use Rattle.table_grow.specs.Pieces.{AreNumbers, AreSpots, HasNumber, IsSpot}
use Rattle.table_grow.specs.declared.pieces.Spot.{Spot}
use Rattle.table_grow.proofs.Growing.{due-kept}
use Rattle.table_grow.proofs.Spots.{spot-number, spots-kept}
use Rattle.table_grow.proofs.place.place_piece.Goals as goal

pub place_spots-requires-clause-due : goal.place_spots-requires-clause-due
place_spots-requires-clause-due c = record {
  each = λ k d h. due-kept c.args.filling.now c.keep_made.new.filling _ c.keep_made.ensures.kept c.keep_made.ensures.same (c.requires.due.each k d h);
  once = c.requires.due.once;
}

pub place_spots-requires-clause-numbers : goal.place_spots-requires-clause-numbers
place_spots-requires-clause-numbers c =
    let made = c.args.piece.made.items in
    let now = c.keep_made.new.filling in
    let numbers : AreNumbers now.tables made c.deref-2.result.now = subst (AreNumbers now.tables made) (sym c.deref-2.ensures.value) c.in_ok-numbers.ensures.numbers in
    subst (λ (ss : List Spot). AreSpots (HasNumber now c.deref-2.result.now) c.args.ids.now ss) (sym c.deref.ensures.value)
    (spots-kept (IsSpot c.args.filling.now made) (HasNumber now c.deref-2.result.now) (spot-number c.args.filling.now now made c.deref-2.result.now c.keep_made.ensures.kept c.keep_made.ensures.same numbers)
    c.args.ids.now c.args.piece.spots.items c.requires.piece.spots)
