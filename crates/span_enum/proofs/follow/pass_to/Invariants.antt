use Rattle.span_enum.proofs.Base.{Ahead, List, PassesTo, IsWalkAt, ℕ, ◌≤◌}
use Rattle.span_enum.proofs.follow.pass_to.Given as goal

abbrev pub invariant-loop-place : goal.invariant-loop-place
invariant-loop-place g l = (at : ℕ) (c : List (Ahead g.row.N)) → IsWalkAt l.input l.trail.ahead.items at l.fn.from c → at ≤ l.position → PassesTo l.input l.trail.ahead.items at l.position l.fn.from l.place c

abbrev pub decreases-loop-place : goal.decreases-loop-place
decreases-loop-place g l = l.place.next
