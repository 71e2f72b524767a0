-- The answers of an automaton on a text, and those that are left after a tuple.
use Rattle.std.specs.Prelude.{◌≡◌, ℕ, ◌↔◌, ◌⊎◌, List, length, Option, Some, None, Contains}
use Rattle.span_types.specs.declared.tuple.Span.{Span}
use Rattle.span_types.specs.Marks.{Comes, Lies}
use Rattle.span_types.specs.Answers.{IsRising}
use Rattle.formula_law.specs.Accepts.{marked_text}
use Rattle.marker_dfa.specs.Deterministic.{DeterministicAutomaton, PathAccepts}

-- a span or none for each variable number
abbrev pub Tuple : Type 0
Tuple = List (Option Span)

-- the tuple has the automaton's variables and lies in the text, and the automaton accepts its marked text
pub record IsMember (a : DeterministicAutomaton) (s : List ℕ) (t : Tuple) : Type 0 where
  pub size : length t ≡ a.variables
  pub lies : Lies (length s) t
  pub accepted : PathAccepts a (marked_text s t)

-- AnswersOf: the list of exactly the members, in mark order
pub record AreAnswersOf (a : DeterministicAutomaton) (s : List ℕ) (ts : List Tuple) : Type 0 where
  pub rising : IsRising ts
  pub members : (t : Tuple) → Contains ts t ↔ IsMember a s t

-- the tuple comes strictly after the cursor, if there is one
abbrev pub IsLeft : Option Tuple → Tuple → Type 0
IsLeft None t = Unit {0}
IsLeft (Some c) t = Comes c t

-- u is the first member that is left
pub record IsFirstMember (a : DeterministicAutomaton) (s : List ℕ) (cursor : Option Tuple) (u : Tuple) : Type 0 where
  pub member : IsMember a s u
  pub left : IsLeft cursor u
  pub least : (t : Tuple) → IsMember a s t → IsLeft cursor t → (t ≡ u) ⊎ Comes u t

-- no member is left
abbrev pub NoMemberLeft : DeterministicAutomaton → List ℕ → Option Tuple → Type 0
NoMemberLeft a s cursor = (t : Tuple) → IsMember a s t → IsLeft cursor t → ⊥

-- there is a member
abbrev pub HasMember : DeterministicAutomaton → List ℕ → Type 0
HasMember a s = (t : Tuple) × IsMember a s t
