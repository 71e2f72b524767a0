use Rattle.std.proofs.Common.{◌∙◌, ap, arith, get_or, refl}
use Rattle.slp_model.specs.declared.NodeId.{NodeId}
use Rattle.table_grow.specs.Filling.{Filling}
use Rattle.table_grow.specs.Pieces.{HasNumber}
use Rattle.table_grow.specs.declared.pieces.Spot.TheVariants as spot
use Rattle.table_grow.proofs.Growing.{assigns-next, number-kept-in}
use Rattle.table_grow.proofs.Spots.{due-after, same-number, spots-at, spots-length}
use Rattle.table_grow.proofs.place.place_spots.Goals as goal

abbrev none : NodeId
none = record { index = 0 }

pub bounds-spots-index : goal.bounds-spots-index
bounds-spots-index c =
    let same = spots-length (HasNumber c.args.filling.now c.args.numbers.now) c.args.ids.now c.args.spots.now c.requires.numbers in
    let lt = c.loop-index-test.true in
    omega (arith, same, lt)

pub number_of-number-requires : goal.number_of-number-requires
number_of-number-requires c =
    let at = spots-at (HasNumber c.args.filling.now c.args.numbers.now) c.args.ids.now c.args.spots.now c.loop-index.index none (spot.Kept 0) c.requires.numbers c.loop-index-test.true in
    rw at.number_is refl

pub assign-requires-clause-due : goal.assign-requires-clause-due
assign-requires-clause-due c = due-after c.args.filling.now c.loop-index.filling c.args.ids.now c.loop-index.index none c.requires.due c.loop-index-test.true c.loop-index.invariant.all

pub assign-requires-clause-number : goal.assign-requires-clause-number
assign-requires-clause-number c =
    let at = spots-at (HasNumber c.args.filling.now c.args.numbers.now) c.args.ids.now c.args.spots.now c.loop-index.index none (spot.Kept 0) c.requires.numbers c.loop-index-test.true in
    number-kept-in c.args.filling.now c.loop-index.filling (get_or c.args.ids.now c.loop-index.index none).index c.number_of-number.result c.loop-index.invariant.all.continues
    (same-number c.args.filling.now c.args.numbers.now _ _ c.number_of-number.result at c.number_of-number.ensures)

pub loop-index-preserved : goal.loop-index-preserved
loop-index-preserved c = record {
  all = assigns-next c.args.filling.now c.loop-index.filling c.assign.new.self c.loop-index.index c.args.ids.now none c.loop-index-test.true c.loop-index.invariant.all c.assign.ensures.one;
  same = c.assign.ensures.same ∙ ap (λ (s : Filling). record s { filler = c.assign.new.self.filler }) c.loop-index.invariant.same;
}
