use Rattle.std.proofs.Common.{arith, ◌≡◌, ◌+◌, ◌^◌, get_or, length, sym, subst}
use Rattle.slp_model.proofs.NodesLemmas.{Grows-none, Grows-trans}
use Rattle.node_store.specs.Blocks.{IsBlockAt}
use Rattle.pair_loader.proofs.LevelLemmas.{few-words, half-count, some-count, whole-block}
use Rattle.pair_loader.proofs.levels.block_by_levels.Goals as goal

pub put_words-requires : goal.put_words-requires
put_words-requires g c = few-words (length c.args.piece.now) c.args.height c.requires.long c.requires.low

pub loop-level-init : goal.loop-level-init
loop-level-init g c = record {
  grows = Grows-none _ c.put_words.new.pairs c.put_words.new.pairs (omega arith);
  room = omega (arith, few-words (length c.args.piece.now) c.args.height c.requires.long c.requires.low, c.put_words.auto.ids);
  made = c.in_ok-put_words.ensures.made;
  cost = omega arith;
}

pub returns-in_err-pair_neighbours-clause-grows : goal.returns-in_err-pair_neighbours-clause-grows
returns-in_err-pair_neighbours-clause-grows g c = Grows-trans _ _ _ _ _ _ c.put_words.ensures.grows (Grows-trans _ _ _ _ _ _ c.loop-level.invariant.grows c.pair_neighbours.ensures.grows)

pub returns-in_err-pair_neighbours-clause-cost : goal.returns-in_err-pair_neighbours-clause-cost
returns-in_err-pair_neighbours-clause-cost g c =
    let n = length c.args.piece.now in
    let some = some-count n c.args.height (c.loop-level.level + 1) c.requires.long (omega (arith, c.loop-level-test.true)) in
    omega (arith, c.put_words.ensures.cost, c.loop-level.invariant.cost, c.pair_neighbours.ensures.cost, half-count n c.loop-level.level, some)

pub loop-level-preserved : goal.loop-level-preserved
loop-level-preserved g c =
    let half = half-count (length c.args.piece.now) c.loop-level.level in
    record {
      grows = Grows-trans _ _ _ _ _ _ c.loop-level.invariant.grows c.pair_neighbours.ensures.grows;
      room = omega (arith, half, c.loop-level.invariant.room, c.pair_neighbours.auto.ids);
      made = c.in_ok-pair_neighbours.ensures.made;
      cost = omega (arith, half, c.loop-level.invariant.cost, c.pair_neighbours.ensures.cost);
    }

pub returns-clause-grows : goal.returns-clause-grows
returns-clause-grows g c = Grows-trans _ _ _ _ _ _ c.put_words.ensures.grows c.loop-level.invariant.grows

pub returns-clause-block : goal.returns-clause-block
returns-clause-block g c =
    let top : c.loop-level.level ≡ c.args.height = omega (arith, c.loop-level-test.false, c.loop-level.auto.level-end, c.requires.high) in
    let long : length c.args.piece.now ≡ 2 ^ c.loop-level.level = subst (λ h. length c.args.piece.now ≡ 2 ^ h) (sym top) c.requires.long in
    let some = some-count (length c.args.piece.now) c.args.height c.loop-level.level c.requires.long (omega arith) in
    let id = get_or c.loop-level.ids 0 (record { index = 0 }) in
    subst (λ h. IsBlockAt c.loop-level.store h c.args.piece.now id.index) top (whole-block _ c.loop-level.level _ _ _ c.loop-level.invariant.made long some (record { index = 0 }))
