use Rattle.span_enum.proofs.Base.{false, is_final, member, ℕ, ◌<◌, ◌≡◌, ◌≤◌}
use Rattle.span_enum.proofs.walk.final_states.Given as goal

abbrev pub invariant-loop-p : goal.invariant-loop-p
invariant-loop-p g l = record { below : (k : ℕ) → k < l.p → member l.set k ≡ is_final l.dfa k; above : (k : ℕ) → l.p ≤ k → member l.set k ≡ false }
