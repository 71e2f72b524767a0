use Rattle.std.proofs.Common.{arith, ◌+◌, ◌<◌, ◌≢◌, length, refl, ◌∙◌, get_or-set_other}
use Rattle.slp_model.proofs.NodesLemmas.{Grows-none, Grows-trans}
use Rattle.pair_loader.proofs.PairLemmas.{joined-block, block-of}
use Rattle.pair_loader.proofs.LevelLemmas.{neighbours, blocks-same, blocks-grow, blocks-more, joined-chunks, half-count}
use Rattle.pair_loader.proofs.levels.pair_neighbours.Goals as goal

pub loop-index-init : goal.loop-index-init
loop-index-init g c = record {
  grows = Grows-none c.make_room.new.self c.args.pairs.now c.args.pairs.now (omega arith);
  made = record { each = λ i d m. absurd (omega arith) };
  rest = λ i d m. refl;
  cost = omega arith;
}

pub slice_copy_out-pair_blocks : goal.slice_copy_out-pair_blocks
slice_copy_out-pair_blocks g c = omega (arith, c.loop-index-test.true, c.requires.room, half-count (length c.args.piece.now) c.args.height)

pub slice_copy_out-pair_blocks-in-loop-index : goal.slice_copy_out-pair_blocks-in-loop-index
slice_copy_out-pair_blocks-in-loop-index g c = omega (arith, c.loop-index-test.true, c.requires.room, half-count (length c.args.piece.now) c.args.height)

pub bounds-ids-index : goal.bounds-ids-index
bounds-ids-index g c = omega (arith, c.loop-index-test.true, c.requires.room, half-count (length c.args.piece.now) c.args.height)

pub pair_blocks-requires-clause-left : goal.pair_blocks-requires-clause-left
pair_blocks-requires-clause-left g c =
    let made = blocks-same _ _ c.args.height _ c.args.piece.now c.args.ids.now c.make_room.ensures c.requires.made in
    block-of _ c.args.height _ _ (neighbours _ _ _ _ c.loop-index.invariant.grows c.args.height c.loop-index.index c.args.piece.now _ _ (record { index = 0 }) made c.loop-index-test.true c.loop-index.invariant.rest).left

pub pair_blocks-requires-clause-right : goal.pair_blocks-requires-clause-right
pair_blocks-requires-clause-right g c =
    let made = blocks-same _ _ c.args.height _ c.args.piece.now c.args.ids.now c.make_room.ensures c.requires.made in
    block-of _ c.args.height _ _ (neighbours _ _ _ _ c.loop-index.invariant.grows c.args.height c.loop-index.index c.args.piece.now _ _ (record { index = 0 }) made c.loop-index-test.true c.loop-index.invariant.rest).right

pub loop-index-preserved : goal.loop-index-preserved
loop-index-preserved g c =
    let made = blocks-same _ _ c.args.height _ c.args.piece.now c.args.ids.now c.make_room.ensures c.requires.made in
    let two = neighbours _ _ _ _ c.loop-index.invariant.grows c.args.height c.loop-index.index c.args.piece.now _ _ (record { index = 0 }) made c.loop-index-test.true c.loop-index.invariant.rest in
    let within : c.loop-index.index < length c.loop-index.ids = omega (arith, c.loop-index-test.true, c.requires.room, half-count (length c.args.piece.now) c.args.height) in
    let here = joined-block _ c.pair_blocks.new.self c.args.height _ _ _ _ _ c.in_ok-ids.field-0.index two.left two.right c.in_ok-ids.ensures.live c.in_ok-ids.ensures.tree (joined-chunks c.args.piece.now c.args.height c.loop-index.index) in
    record {
      grows = Grows-trans _ _ _ _ _ _ c.loop-index.invariant.grows c.pair_blocks.ensures.grows;
      made = blocks-more _ (c.args.height + 1) c.loop-index.index _ _ c.in_ok-ids.field-0 (blocks-grow _ _ _ _ c.pair_blocks.ensures.grows _ _ _ _ c.loop-index.invariant.made) within here;
      rest = λ i d m.
          let other : i ≢ c.loop-index.index = omega arith in
          get_or-set_other c.loop-index.ids c.loop-index.index i c.in_ok-ids.field-0 d other ∙ c.loop-index.invariant.rest i d (omega arith);
      cost = omega (arith, c.loop-index.invariant.cost, c.pair_blocks.ensures.step);
    }
