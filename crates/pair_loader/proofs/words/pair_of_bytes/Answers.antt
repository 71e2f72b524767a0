use Rattle.std.proofs.Common.{refl, []}
use Rattle.std.proofs.Common.{◌∷◌}
use Rattle.slp_model.proofs.NodesLemmas.{Grows-trans}
use Rattle.node_store.specs.Blocks.{IsBlockAt}
use Rattle.pair_loader.proofs.BlockLemmas.{Grows-weaker}
use Rattle.node_store.proofs.KnownLemmas.{block-grows}
use Rattle.pair_loader.proofs.PairLemmas.{block-of, joined-block, leaf-block}
use Rattle.pair_loader.proofs.words.pair_of_bytes.Goals as goal

pub pair_blocks-requires-clause-left : goal.pair_blocks-requires-clause-left
pair_blocks-requires-clause-left g c =
    let left : IsBlockAt c.byte-2.new.self 0 (c.args.first ∷ []) c.in_ok-left.left.index = block-grows _ _ 0 0 c.byte-2.ensures.grows 0 _ _ (leaf-block _ _ _ c.in_ok-left.ensures.live c.in_ok-left.ensures.tree) in
    block-of _ 0 _ _ left

pub pair_blocks-requires-clause-right : goal.pair_blocks-requires-clause-right
pair_blocks-requires-clause-right g c =
    let right : IsBlockAt c.byte-2.new.self 0 (c.args.second ∷ []) c.in_ok-right.right.index = leaf-block _ _ _ c.in_ok-right.ensures.live c.in_ok-right.ensures.tree in
    block-of _ 0 _ _ right

pub returns-in_err-block-clause-grows : goal.returns-in_err-block-clause-grows
returns-in_err-block-clause-grows g c =
    Grows-trans _ _ _ _ _ _ (Grows-weaker _ _ c.args.pairs.now c.byte.ensures.grows) (Grows-trans _ _ _ _ _ _ (Grows-weaker _ _ c.args.pairs.now c.byte-2.ensures.grows) c.pair_blocks.ensures.grows)

pub returns-clause-grows : goal.returns-clause-grows
returns-clause-grows g c =
    Grows-trans _ _ _ _ _ _ (Grows-weaker _ _ c.args.pairs.now c.byte.ensures.grows) (Grows-trans _ _ _ _ _ _ (Grows-weaker _ _ c.args.pairs.now c.byte-2.ensures.grows) c.pair_blocks.ensures.grows)

pub returns-clause-block : goal.returns-clause-block
returns-clause-block g c =
    let left : IsBlockAt c.byte-2.new.self 0 (c.args.first ∷ []) c.in_ok-left.left.index = block-grows _ _ 0 0 c.byte-2.ensures.grows 0 _ _ (leaf-block _ _ _ c.in_ok-left.ensures.live c.in_ok-left.ensures.tree) in
    let right : IsBlockAt c.byte-2.new.self 0 (c.args.second ∷ []) c.in_ok-right.right.index = leaf-block _ _ _ c.in_ok-right.ensures.live c.in_ok-right.ensures.tree in
    joined-block _ _ 0 _ _ _ _ _ _ left right c.in_ok-block.ensures.live c.in_ok-block.ensures.tree refl
