use Rattle.span_enum.proofs.Base.{IsBound, mark_of, spans_of, ℕ, ◌<◌, ◌≤◌}
use Rattle.span_enum.proofs.walk.first_mark.Given as goal

abbrev pub invariant-loop-v : goal.invariant-loop-v
invariant-loop-v l =
    record {
      from : l.from ≤ l.first;
      to : l.first ≤ l.end;
      none : (k : ℕ) → k < l.v → (p : ℕ) → l.from ≤ p → p < l.first → IsBound (spans_of l.t k) p → ⊥;
      some : l.first < l.end → 0 < mark_of l.t l.first;
    }
