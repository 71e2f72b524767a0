use Rattle.span_enum.proofs.Base.{IsBound, spans_of, ℕ, ◌<◌, ◌≤◌}
use Rattle.span_enum.proofs.walk.is_marked_between.Given as goal

abbrev pub invariant-loop-v : goal.invariant-loop-v
invariant-loop-v l = (k : ℕ) → k < l.v → (p : ℕ) → l.from ≤ p → p < l.to → IsBound (spans_of l.t k) p → ⊥
