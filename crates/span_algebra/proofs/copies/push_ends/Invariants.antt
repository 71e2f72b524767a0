use Rattle.std.proofs.Common.{ℕ, ◌+◌, ◌<◌}
use Rattle.marker_nfa.specs.Parts.{Adds}
use Rattle.span_algebra.specs.Making.{IsEndOf}
use Rattle.span_algebra.proofs.copies.push_ends.Given as goal

abbrev pub invariant-loop-state : goal.invariant-loop-state
invariant-loop-state l = Adds l.fn.ends.items l.ends.items (λ e. (q : ℕ) × (q < l.state) × IsEndOf l.copy.dfa.now l.copy.places.now (l.copy.base + q) q e)
