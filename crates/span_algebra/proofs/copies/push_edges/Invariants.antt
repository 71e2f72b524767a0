use Rattle.std.proofs.Common.{ℕ, ◌+◌, ◌<◌}
use Rattle.marker_nfa.specs.Parts.{Adds}
use Rattle.span_algebra.specs.Making.{IsEdgeAmong}
use Rattle.span_algebra.proofs.copies.push_edges.Given as goal

abbrev pub invariant-loop-state : goal.invariant-loop-state
invariant-loop-state l = Adds l.fn.edges l.edges (λ e. (q : ℕ) × (q < l.state) × IsEdgeAmong l.copy.dfa.now l.copy.places.now (l.copy.base + q) l.copy.base q l.classes e)
