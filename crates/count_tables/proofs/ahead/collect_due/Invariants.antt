use Rattle.std.proofs.Common.{◌≡◌, length}
use Rattle.std.specs.Prelude.{All}
use Rattle.count_tables.specs.Ahead.{AreFound, IsJob}
use Rattle.count_tables.proofs.ahead.collect_due.Given as goal

abbrev pub invariant-loop-index : goal.invariant-loop-index
invariant-loop-index g l = record {
  found : AreFound l.growth.dfa.now l.growth.store.now l.kept l.numbers l.found;
  same : l.memo ≡ l.initial.memo;
  jobs : All (IsJob l.growth.dfa.now l.growth.store.now l.kept (length l.numbers) (length l.initial.found)) l.jobs.items;
}
