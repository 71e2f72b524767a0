use Rattle.span_enum.proofs.Base.{IsNoMark, get_or, ℕ, ◌<◌}
use Rattle.span_enum.proofs.walk.greatest_mark.Given as goal

abbrev pub invariant-loop-mark : goal.invariant-loop-mark
invariant-loop-mark g l = (k : ℕ) → k < l.mark-index → IsNoMark l.dfa l.p l.byte l.goals l.limit (get_or l.mark-items k 0)
