use Rattle.span_enum.proofs.Base.{IsTrailOf, length, ◌≡◌}
use Rattle.span_enum.proofs.trail.lower_last.Given as goal

abbrev pub invariant-loop-trail : goal.invariant-loop-trail
invariant-loop-trail g l = record {
  trail : IsTrailOf l.input l.t l.trail.marks.items l.trail.ahead.items;
  marks_room : l.trail.marks.capacity ≡ l.fn.trail.marks.capacity;
  ahead_room : l.trail.ahead.capacity ≡ l.fn.trail.ahead.capacity;
}

abbrev pub decreases-loop-trail : goal.decreases-loop-trail
decreases-loop-trail g l = length l.trail.marks.items
