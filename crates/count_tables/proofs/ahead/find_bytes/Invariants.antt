use Rattle.count_tables.specs.Ahead.{AreFound}
use Rattle.count_tables.specs.Remembered.{Extends}
use Rattle.count_tables.proofs.ahead.find_bytes.Given as goal

abbrev pub invariant-loop-index : goal.invariant-loop-index
invariant-loop-index g l = record {
  found : AreFound l.growth.dfa.now l.growth.store.now l.kept l.numbers l.found;
  extends : Extends l.initial.kept l.kept;
}
