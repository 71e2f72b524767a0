use Rattle.std.proofs.Common.{◌≡◌, ◌++◌, ◌+◌, ◌*◌, ◌≤◌, drop, take, length}
use Rattle.span_cursor.specs.Tuples.{more_text, tuple_text}
use Rattle.span_cursor.proofs.ReadLemmas.{NamedBelow}
use Rattle.span_cursor.proofs.printing.print.Given as goal

abbrev pub invariant-loop-v : goal.invariant-loop-v
invariant-loop-v l = record {
  room : l.at + 1 ≤ 99 * l.v;
  named : NamedBelow l.v l.vars;
  whole : take l.at l.into ++ more_text (drop l.v l.vars) (drop l.v l.tuple) ≡ tuple_text l.vars l.tuple;
  long : length l.into ≡ length l.fn.into;
}
