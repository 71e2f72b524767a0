use Rattle.std.proofs.Common.{◌++◌, ◌∷◌, [], take, sym, subst, get_or, List}
use Rattle.std.proofs.lemmas.List.{take_more}
use Rattle.slp_model.specs.declared.NodeId.{NodeId}
use Rattle.table_grow.specs.Pieces.{AreSpots, IsSpot}
use Rattle.table_grow.proofs.Spots.{spots-push}
use Rattle.table_grow.proofs.pieces.one_piece.Goals as goal

pub loop-id-preserved : goal.loop-id-preserved
loop-id-preserved g c =
    let at = c.loop-id in
    let ids = c.args.ids.now in
    let first : NodeId = record { index = 0 } in
    record {
      made = c.in_ok-spot.ensures.made;
      own = c.in_ok-spot.ensures.own;
      spots = rw c.in_ok-push.ensures.items
          (subst (λ (xs : List NodeId). AreSpots (IsSpot c.args.finder.now c.spot_of.new.made.items) xs (at.spots.items ++ c.in_ok-spot.spot ∷ [])) (sym (take_more ids at.id-index first c.loop-id-test.true))
          (spots-push c.args.finder.now at.made.items c.spot_of.new.made.items (take at.id-index ids) at.spots.items (get_or ids at.id-index first) c.in_ok-spot.spot
          c.in_ok-spot.ensures.kept at.invariant.spots c.in_ok-spot.ensures.spot));
    }
