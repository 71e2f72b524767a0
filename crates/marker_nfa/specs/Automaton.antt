-- Automata that read a mark before each byte of a text, and a last mark after it.
use Rattle.std.specs.Prelude.{◌≡◌, ℕ, ◌^◌, ◌<◌, ◌≤◌, Bool, true, false, List, Option, Contains, length, slice_index_or}
use Rattle.span_types.specs.declared.tuple.Span.{Span}
use Rattle.span_types.specs.Marks.{Lies}
use Rattle.span_types.specs.Places.{IsTuple}
use Rattle.formula_law.specs.Accepts.{MarkedText, Reaches, marked_text}
use Rattle.formula_law.specs.Law.{bytes_of}
use Rattle.marker_nfa.specs.declared.nfa.Edge.{Edge}
use Rattle.marker_nfa.specs.declared.nfa.End.{End}

-- an automaton, whose start is state 0
pub record Automaton : Type 0 where
  pub states : ℕ
  pub variables : ℕ
  pub edges : List Edge
  pub ends : List End

-- a step from o to p that reads a mark and then a byte
pub record Moves (a : Automaton) (o m b p : ℕ) : Type 0 where
  pub edge : Edge
  pub among : Contains a.edges edge
  pub from : edge.from ≡ o
  pub mark : edge.mark ≡ m
  pub letter : slice_index_or edge.letters b false ≡ true
  pub to : edge.to ≡ p

-- the byte set of each edge is in the list
abbrev pub AreLettersOf : List Edge → List (List Bool) → Type 0
AreLettersOf edges letters = (e : Edge) → Contains edges e → Contains letters e.letters

-- a text may end in this state with this last mark
abbrev pub MayEnd : Automaton → ℕ → ℕ → Type 0
MayEnd a o m = Contains a.ends (record { state = o; mark = m })

-- the automaton accepts a marked text
pub record AcceptsText (a : Automaton) (w : MarkedText) : Type 0 where
  pub state : ℕ
  pub reaches : Reaches (Moves a) 0 w.pairs state
  pub ends : MayEnd a state w.last

-- the text is the marked text of a tuple of k variables that lies in it
pub record IsMarked (k : ℕ) (w : MarkedText) : Type 0 where
  pub tuple : List (Option Span)
  pub size : length tuple ≡ k
  pub valid : IsTuple tuple
  pub lies : Lies (length (bytes_of w.pairs)) tuple
  pub marks : w ≡ marked_text (bytes_of w.pairs) tuple

-- each mark is one of the variables, and each accepted text of at most 2^48 bytes has the marks of a tuple
pub record IsWellmarked (a : Automaton) : Type 0 where
  pub edge_marks : (e : Edge) → Contains a.edges e → e.mark < 4 ^ a.variables
  pub end_marks : (e : End) → Contains a.ends e → e.mark < 4 ^ a.variables
  pub accepted : (w : MarkedText) → length w.pairs ≤ 281474976710656 → AcceptsText a w → IsMarked a.variables w

-- what holds of every automaton of the type Nfa
pub record IsAutomaton (a : Automaton) : Type 0 where
  pub has_start : 0 < a.states
  pub few_variables : a.variables ≤ 8
  pub edges_within : (e : Edge) → Contains a.edges e → (e.from < a.states) × (e.to < a.states)
  pub ends_within : (e : End) → Contains a.ends e → e.state < a.states
  pub wellmarked : IsWellmarked a
