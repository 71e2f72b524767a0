use Rattle.std.proofs.Common.{arith, length, length-append}
use Rattle.pair_loader.specs.Pending.{fed}
use Rattle.load_bench.proofs.measure.Goals as goal

pub loop-preserved : goal.loop-preserved
loop-preserved g c = record {
  used = c.feed.ensures.used;
  long = rw c.in-Ok-feed.ensures.fed (omega (arith, length-append (fed c.loop.store c.loop.loader) c.as_slice-piece.result.now, c.loop.invariant.long));
}
