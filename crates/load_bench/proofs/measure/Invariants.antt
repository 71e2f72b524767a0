use Rattle.std.proofs.Common.{◌≡◌, length}
use Rattle.pair_loader.specs.Pending.{IsLoader, fed}
use Rattle.load_bench.proofs.measure.Given as goal

abbrev pub invariant-loop : goal.invariant-loop
invariant-loop g l = record {
  used : IsLoader l.store l.loader;
  long : length (fed l.store l.loader) ≡ l.count;
}
