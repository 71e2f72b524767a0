use Rattle.span_enum.proofs.Base.{IsNoMark, get_or, ℕ, ◌<◌}
use Rattle.span_enum.proofs.ends.greatest_end.Given as goal

abbrev pub invariant-loop-mark : goal.invariant-loop-mark
invariant-loop-mark l = (k : ℕ) → k < l.mark-index → IsNoMark l.dfa l.q 256 1 l.limit (get_or l.mark-items k 0)
