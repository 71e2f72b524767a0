use Rattle.std.proofs.Common.{◌≡◌, ◌<◌, arith, sym, subst}
use Rattle.table_grow.specs.Layers.{AreLayers}
use Rattle.table_grow.proofs.Layering.{layers-none, layers-put}
use Rattle.table_grow.proofs.layers.Layers.new.Goals as goal

pub loop-index-init : goal.loop-index-init
loop-index-init c = rw c.in_ok-layers.ensures (layers-none c.args.store.now c.args.from)

pub loop-index-preserved : goal.loop-index-preserved
loop-index-preserved c =
    let low : c.height.result < 69 = omega (arith, c.height.ensures.low) in
    rw c.in_ok-put.ensures
    (layers-put c.args.store.now c.args.from c.loop-index.index c.height.result c.loop-index.layers c.loop-index.auto.index (sym c.height.ensures.height) low c.loop-index.invariant)

pub returns : goal.returns
returns c =
    let at : c.loop-index.index ≡ c.args.to = omega arith in
    subst (λ n. AreLayers c.args.store.now c.args.from n c.loop-index.layers) at c.loop-index.invariant
