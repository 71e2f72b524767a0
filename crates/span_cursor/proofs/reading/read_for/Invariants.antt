use Rattle.std.proofs.Common.{◌≡◌, length}
use Rattle.span_types.specs.Places.{AreSpans}
use Rattle.span_cursor.proofs.ReadLemmas.{NamedBelow, Reads}
use Rattle.span_cursor.proofs.reading.read_for.Given as goal

abbrev pub invariant-loop-v : goal.invariant-loop-v
invariant-loop-v l = record {
  long : length l.tuple ≡ length l.vars;
  spans : AreSpans l.tuple;
  named : NamedBelow l.v l.vars;
  reads : Reads l.v l.vars l.text l.tuple l.left;
}
