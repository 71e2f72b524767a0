-- The answers of one variable whose span starts at a position.
use Rattle.std.specs.Prelude.{◌≡◌, ℕ, ◌≤◌, List, [], ◌∷◌, Some}
use Rattle.span_types.specs.declared.tuple.Span.{Span}
use Rattle.marker_dfa.specs.Deterministic.{DeterministicAutomaton}
use Rattle.span_enum.specs.Members.{IsMember}

-- the span of a member starts there
pub record HasStart (a : DeterministicAutomaton) (s : List ℕ) (start : ℕ) : Type 0 where
  pub span : Span
  pub member : IsMember a s (Some span ∷ [])
  pub start_is : span.start ≡ start

-- of the members whose span starts there, one ends here and none ends later
pub record IsLastEnd (a : DeterministicAutomaton) (s : List ℕ) (start end : ℕ) : Type 0 where
  pub member : IsMember a s (Some (record { start = start; end = end }) ∷ [])
  pub last : (q : Span) → IsMember a s (Some q ∷ []) → q.start ≡ start → q.end ≤ end
