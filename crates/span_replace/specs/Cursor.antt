-- After which span the next one is searched.
use Rattle.std.specs.Prelude.{◌≡◌, ℕ, ◌-◌, nat_lt, List, [], ◌∷◌, Some, Option, if◌then◌else◌}
use Rattle.span_types.specs.declared.tuple.Span.{Span}
use Rattle.span_enum.specs.LastEnd.{IsLastEnd}
use Rattle.span_enum.specs.Members.{Tuple, IsMember, IsLeft, IsFirstMember}
use Rattle.marker_dfa.specs.Deterministic.{DeterministicAutomaton}

-- after `[i,j)` with i < j no other span that starts before j is chosen, and after `[i,i)` all that follow may be
abbrev pub past : Span → Span
past q = if nat_lt q.start q.end then record { start = q.end - 1; end = 281474976710657 } else q

-- after any span the next longest one is searched past the empty span at its end
abbrev pub empty_end : Span → Span
empty_end q = record { start = q.end; end = q.end }

-- no member that has a span of its one variable is left
abbrev pub NoSpanLeft : DeterministicAutomaton → List ℕ → Option Tuple → Type 0
NoSpanLeft a s cursor = (q : Span) → IsMember a s (Some q ∷ []) → IsLeft cursor (Some q ∷ []) → ⊥

-- q has the start of the first member that is left, and the greatest end of the members of that start
pub record IsLongestLeft (a : DeterministicAutomaton) (s : List ℕ) (cursor : Option Tuple) (q : Span) : Type 0 where
  pub first : Span
  pub is_first : IsFirstMember a s cursor (Some first ∷ [])
  pub start_is : q.start ≡ first.start
  pub last : IsLastEnd a s q.start q.end
