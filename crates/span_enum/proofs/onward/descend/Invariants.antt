use Rattle.span_enum.proofs.Base.{CanDescend, ContinuesAt, bit_and, marked_of, ◌≡◌}
use Rattle.span_enum.proofs.onward.descend.Given as goal

abbrev pub invariant-down : goal.invariant-down
invariant-down g l = record {
  down : CanDescend l.input l.descent.here l.descent.state l.descent.base l.trail.marks.items l.trail.marks.capacity l.trail.ahead.items l.trail.ahead.capacity;
  some : bit_and (marked_of l.descent.here.look.table.now l.descent.state) l.descent.here.goals ≡ 0 → ⊥;
  marks : l.trail.marks ≡ l.fn.trail.marks;
  base : l.descent.base ≡ l.fn.descent.base;
  out : l.out ≡ l.fn.out;
  room : l.trail.ahead.capacity ≡ l.fn.trail.ahead.capacity;
  on : ContinuesAt l.input l.fn.descent.here l.fn.descent.state l.descent.here l.descent.state l.fn.descent.base l.fn.trail.marks.items l.fn.trail.ahead.items l.trail.ahead.items l.fn.looks l.looks;
}

abbrev pub decreases-down : goal.decreases-down
decreases-down g l = l.descent.here.id.index
