use Rattle.span_enum.proofs.Base.{EndsPast, spans_of, ℕ, ◌<◌}
use Rattle.span_enum.proofs.ends.is_past.Given as goal

abbrev pub invariant-loop-v : goal.invariant-loop-v
invariant-loop-v l = (k : ℕ) → k < l.v → EndsPast (spans_of l.t k) l.from → ⊥
