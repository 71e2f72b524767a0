use Rattle.std.proofs.Common.{arith, ◌<◌, length, subst}
use Rattle.std.specs.Fork.{slice_chunk}
use Rattle.slp_model.proofs.NodesLemmas.{Grows-none, Grows-trans}
use Rattle.slp_model.specs.Nodes.{Grows}
use Rattle.node_store.specs.Blocks.{IsBlockAt}
use Rattle.pair_loader.proofs.LevelLemmas.{blocks-grow, blocks-more, chunk-read}
use Rattle.pair_loader.proofs.levels.put_words.Goals as goal

pub loop-index-init : goal.loop-index-init
loop-index-init g c = record {
  grows = Grows-none c.make_room_for_words.new.self c.args.pairs.now c.args.pairs.now (omega arith);
  made = record { each = λ i d m. absurd (omega arith) };
  cost = omega arith;
}

pub returns-in_err-ids-clause-grows : goal.returns-in_err-ids-clause-grows
returns-in_err-ids-clause-grows g c =
    subst (λ s. Grows s c.block_of_eight.new.store c.args.pairs.now c.block_of_eight.new.pairs) c.make_room_for_words.ensures (Grows-trans _ _ _ _ _ _ c.loop-index.invariant.grows c.block_of_eight.ensures.grows)

pub loop-index-preserved : goal.loop-index-preserved
loop-index-preserved g c =
    let within : c.loop-index.index < length c.loop-index.ids = omega arith in
    let here : IsBlockAt c.block_of_eight.new.store 3 (slice_chunk c.args.piece.now 8 c.loop-index.index) c.in_ok-ids.field-0.index = subst (λ t. IsBlockAt c.block_of_eight.new.store 3 t c.in_ok-ids.field-0.index) (chunk-read c.args.piece.now 8 c.loop-index.index) c.in_ok-ids.ensures.block in
    record {
      grows = Grows-trans _ _ _ _ _ _ c.loop-index.invariant.grows c.block_of_eight.ensures.grows;
      made = blocks-more _ 3 c.loop-index.index _ _ c.in_ok-ids.field-0 (blocks-grow _ _ _ _ c.block_of_eight.ensures.grows 3 _ _ _ c.loop-index.invariant.made) within here;
      cost = omega (arith, c.loop-index.invariant.cost, c.block_of_eight.ensures.cost);
    }
