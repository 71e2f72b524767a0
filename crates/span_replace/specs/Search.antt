-- What is chosen next, by the choice.
use Rattle.std.specs.Prelude.{ℕ, List, [], ◌∷◌, Option, Some, MatchOption}
use Rattle.span_types.specs.declared.tuple.Span.{Span}
use Rattle.span_enum.specs.Members.{Tuple, IsFirstMember}
use Rattle.marker_dfa.specs.Deterministic.{DeterministicAutomaton}
use Rattle.span_replace.specs.declared.choice.Choice.{Choice}
use Rattle.span_replace.specs.declared.choice.Choice.TheVariants.{First, Longest}
use Rattle.span_replace.specs.Chosen.{chosen}
use Rattle.span_replace.specs.Longest.{longest}
use Rattle.span_replace.specs.Cursor.{NoSpanLeft, IsLongestLeft, past, empty_end}

-- the chosen spans of all answers
abbrev pub chosen_by : Choice → List Tuple → List Span
chosen_by First all = chosen all
chosen_by Longest all = longest all

-- the span after which the next one is searched once q was taken
abbrev pub cursor_past : Choice → Span → Span
cursor_past First q = past q
cursor_past Longest q = empty_end q

-- what is chosen of the members that are left after the cursor, if any of them has a span
abbrev pub Finds : Choice → DeterministicAutomaton → List ℕ → Option Tuple → Option Span → Type 0
Finds First a s cursor next = MatchOption next (NoSpanLeft a s cursor) (λ q. IsFirstMember a s cursor (Some q ∷ []))
Finds Longest a s cursor next = MatchOption next (NoSpanLeft a s cursor) (IsLongestLeft a s cursor)

-- the number of times that a search moves along the text
abbrev pub search_cost : Choice → ℕ
search_cost First = 1
search_cost Longest = 2
