use Rattle.std.proofs.Common.{ap, arith, length}
use Rattle.table_grow.proofs.Growing.{continues-refl}
use Rattle.table_grow.proofs.growth.place_new.Goals as goal

pub loop-from-init : goal.loop-from-init
loop-from-init g c =
    let fit = c.growth.ensures.ready.fits.nodes_fit in
    let count = c.count-count.ensures.count in
    let nodes = ap length c.growth.ensures.store in
    record {
      some = omega arith;
      within = omega (arith, fit, count, nodes);
      continues = continues-refl c.args.filling.now;
      filled = rw c.known-from.ensures c.requires;
    }
