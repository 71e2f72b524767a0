use Rattle.std.proofs.Common.{◌≡◌, length}
use Rattle.pair_loader.specs.Pending.{IsLoader, fed}
use Rattle.store_tests.proofs.tests.loads.feeds.Given as goal

abbrev pub invariant-loop-end : goal.invariant-loop-end
invariant-loop-end g l = record {
  used : IsLoader l.scratch.store l.loader;
  long : length (fed l.scratch.store l.loader) ≡ l.start;
}
