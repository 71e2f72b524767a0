use Rattle.span_enum.proofs.Base.{Ahead, CanEnd, List, PassesPlain, IsWalkAt, ℕ}
use Rattle.span_enum.proofs.onward.pass_plain.Given as goal

abbrev pub invariant-loop-place : goal.invariant-loop-place
invariant-loop-place g l = record {
  passes : (at : ℕ) (c : List (Ahead g.row.N)) → IsWalkAt l.input l.trail.ahead.items at l.fn.from c → CanEnd l.input l.fn.from.state c → PassesPlain l.input l.trail.ahead.items at l.fn.from l.place c;
}

abbrev pub decreases-loop-place : goal.decreases-loop-place
decreases-loop-place g l = l.place.next
