use Rattle.span_algebra.specs.Making.{AreClassesUpTo}
use Rattle.span_algebra.proofs.classes.classes_of.Given as goal

abbrev pub invariant-loop-byte : goal.invariant-loop-byte
invariant-loop-byte l = record {
  left : AreClassesUpTo l.byte l.left l.classes.items;
  right : AreClassesUpTo l.byte l.right l.classes.items;
}
