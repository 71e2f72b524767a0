use Rattle.count_tables.specs.Ahead.{AreFound}
use Rattle.count_tables.specs.Remembered.{AreTrueEntries, Extends}
use Rattle.count_tables.proofs.ahead.find_ahead.Given as goal

abbrev pub invariant-loop-height : goal.invariant-loop-height
invariant-loop-height g l = record {
  found : AreFound l.growth.dfa.now l.growth.store.now l.kept l.numbers l.found;
  entries : AreTrueEntries l.kept l.memo;
  extends : Extends l.fn.kept l.kept;
}
