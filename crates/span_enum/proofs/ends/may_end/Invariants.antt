use Rattle.span_enum.proofs.Base.{get_or, ℕ, ◌<◌, ◌≢◌}
use Rattle.span_enum.proofs.ends.may_end.Given as goal

abbrev pub invariant-loop-end : goal.invariant-loop-end
invariant-loop-end l = (k : ℕ) → k < l.end-index → get_or l.end-items k 0 ≢ l.mark
