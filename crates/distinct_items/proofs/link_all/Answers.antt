use Rattle.std.proofs.Common.{◌+◌, ◌<◌, length, refl, arith}
use Rattle.distinct_items.specs.Search.{bits_of}
use Rattle.distinct_items.proofs.SearchLemmas.{item-at, tree-next}
use Rattle.distinct_items.proofs.link_all.Goals as goal

pub offset_bounds-links-slot : goal.offset_bounds-links-slot
offset_bounds-links-slot g c =
    let item = item-at c.args.items.now c.loop-index.index c.loop-index-test.true in
    let free = c.open_of-slot.ensures item.0 item.1 in
    let low : c.open_of-slot.result < length c.loop-index.links = omega (arith, free.inside, c.loop-index-test.true, c.requires.few, c.loop-index.invariant.long) in
    grind (arith, low)

pub bounds-links-slot : goal.bounds-links-slot
bounds-links-slot g c =
    let item = item-at c.args.items.now c.loop-index.index c.loop-index-test.true in
    let free = c.open_of-slot.ensures item.0 item.1 in
    omega (arith, free.inside, c.loop-index-test.true, c.requires.few, c.loop-index.invariant.long)

pub loop-index-preserved : goal.loop-index-preserved
loop-index-preserved g c =
    let at = c.loop-index in
    let item = item-at c.args.items.now at.index c.loop-index-test.true in
    tree-next (bits_of g.T.Digested.root g.T.Digested.branch) c.args.roots c.args.items.now at.index at.links item.0 c.open_of-slot.result (at.index + 1) at.invariant
    (omega (arith, c.loop-index-test.true, c.requires.few)) item.1 (c.open_of-slot.ensures item.0 item.1) refl
