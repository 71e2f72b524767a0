-- How an operation's automaton is constructed.
use Rattle.std.specs.Prelude.{◌≡◌, ℕ, ◌+◌, ◌*◌, ◌/◌, ◌%◌, ◌^◌, ◌<◌, ◌≤◌, false, true, Bool, List, [], ◌∷◌, length, map, Option, Some, None, slice_get, slice_index_or, Contains}
use Rattle.marker_nfa.specs.declared.nfa.Edge.{Edge}
use Rattle.marker_nfa.specs.declared.nfa.End.{End}
use Rattle.marker_nfa.specs.Automaton.{Automaton, Moves, MayEnd}
use Rattle.marker_dfa.specs.Deterministic.{AreAlike, DeterministicAutomaton, next_of, ends_of, states_of}
use Rattle.span_algebra.specs.declared.classes.Class.{Class}
use Rattle.span_algebra.specs.Renaming.{both_names, mark_for}
use Rattle.span_algebra.specs.TreeAutomaton.{IsAt, ProjectEnd, ProjectStep, UnionEnd, UnionStep, union_size}

-- the bytes of each class are alike, the first one among them, and each of the first n bytes has a class
pub record AreClassesUpTo (n : ℕ) (a : DeterministicAutomaton) (classes : List Class) : Type 0 where
  pub size : (c : Class) → Contains classes c → length c.letters ≡ 256
  pub own : (c : Class) → Contains classes c → slice_index_or c.letters c.first false ≡ true
  pub alike : (c : Class) (b : ℕ) → Contains classes c → slice_index_or c.letters b false ≡ true → (b < 256) × AreAlike a b c.first
  pub all : (b : ℕ) → b < n → (c : Class) × Contains classes c × (slice_index_or c.letters b false ≡ true)

-- the same of all bytes
abbrev pub AreClasses : DeterministicAutomaton → List Class → Type 0
AreClasses a classes = AreClassesUpTo 256 a classes

-- the byte sets of classes
abbrev pub letters_of : List Class → List (List Bool)
letters_of classes = map (λ c. c.letters) classes

-- the digit of a mark at an index, if there is one
abbrev pub digit_at : Option ℕ → ℕ → ℕ
digit_at None m = 0
digit_at (Some v) m = (m / 4 ^ v) % 4

-- the mark with the digits from these indices
abbrev pub mark_by : List (Option ℕ) → ℕ → ℕ
mark_by [] m = 0
mark_by (v ∷ places) m = digit_at v m + 4 * mark_by places m

-- the step of a state by a mark and the first byte of a class, as an edge
abbrev pub IsEdgeBy : DeterministicAutomaton → List (Option ℕ) → ℕ → ℕ → ℕ → Class → ℕ → Edge → Type 0
IsEdgeBy a places from base state c own_mark e = (next : ℕ) × (next_of a state own_mark c.first ≡ Some next) × (e ≡ record { from = from; mark = mark_by places own_mark; letters = c.letters; to = base + next })

-- the same for some mark
abbrev pub IsEdgeOf : DeterministicAutomaton → List (Option ℕ) → ℕ → ℕ → ℕ → Class → Edge → Type 0
IsEdgeOf a places from base state c e = (own_mark : ℕ) × IsEdgeBy a places from base state c own_mark e

-- the same for some class of a list
abbrev pub IsEdgeAmong : DeterministicAutomaton → List (Option ℕ) → ℕ → ℕ → ℕ → List Class → Edge → Type 0
IsEdgeAmong a places from base state classes e = (c : Class) × Contains classes c × IsEdgeOf a places from base state c e

-- an end of a state
abbrev pub IsEndBy : List (Option ℕ) → ℕ → ℕ → End → Type 0
IsEndBy places from own_mark e = e ≡ record { state = from; mark = mark_by places own_mark }

abbrev pub IsEndOf : DeterministicAutomaton → List (Option ℕ) → ℕ → ℕ → End → Type 0
IsEndOf a places from state e = (own_mark : ℕ) × Contains (ends_of a state) own_mark × IsEndBy places from own_mark e

-- an edge of a copy whose states begin at `base`; the start also has the edges of the copy's start
pub record IsCopiedEdge (a : DeterministicAutomaton) (places : List (Option ℕ)) (base : ℕ) (classes : List Class) (e : Edge) : Type 0 where
  pub from : ℕ
  pub state : ℕ
  pub at : IsAt base from state
  pub edge : IsEdgeAmong a places from base state classes e

pub record IsCopiedEnd (a : DeterministicAutomaton) (places : List (Option ℕ)) (base : ℕ) (e : End) : Type 0 where
  pub from : ℕ
  pub state : ℕ
  pub at : IsAt base from state
  pub end : IsEndOf a places from state e

-- each index is that of one of at most eight variables
abbrev pub AreIndices : List (Option ℕ) → Type 0
AreIndices [] = Unit {0}
AreIndices (None ∷ places) = AreIndices places
AreIndices (Some v ∷ places) = (v < 8) × AreIndices places

-- the indices are those of at most eight variables, and the number of a copy's first state is small
pub record CanCopy (places : List (Option ℕ)) (base : ℕ) : Type 0 where
  pub few : length places ≤ 8
  pub small : AreIndices places
  pub first : base ≤ 1025

-- the indices in `from` of the names `to`
pub record AreIndicesOf (to from : List (List ℕ)) (places : List (Option ℕ)) : Type 0 where
  pub size : length places ≡ length to
  pub small : AreIndices places
  pub marks : (m : ℕ) → mark_by places m ≡ mark_for to from m

-- the class at an index, whose first byte is like this one in both automata
pub record IsClassOf (classes : List Class) (left right : DeterministicAutomaton) (b index : ℕ) : Type 0 where
  pub class : Class
  pub there : slice_get classes index ≡ Some class
  pub left_alike : AreAlike left b class.first
  pub right_alike : AreAlike right b class.first

-- the automaton has these occurrences, steps and ends
pub record HasParts (n : ℕ) (Step : ℕ → ℕ → ℕ → ℕ → Type 0) (End : ℕ → ℕ → Type 0) (a : Automaton) : Type 0 where
  pub states : a.states ≡ n
  pub step_to : (o m b p : ℕ) → Moves a o m b p → Step o m b p
  pub step_from : (o m b p : ℕ) → Step o m b p → Moves a o m b p
  pub end_to : (o m : ℕ) → MayEnd a o m → End o m
  pub end_from : (o m : ℕ) → End o m → MayEnd a o m

-- an automaton of a union's occurrences
pub record IsUnionNfa (a : DeterministicAutomaton) (va : List (List ℕ)) (b : DeterministicAutomaton) (vb : List (List ℕ)) (n : Automaton) : Type 0 where
  pub variables : n.variables ≡ length (both_names va vb)
  pub parts : HasParts (union_size a b) (UnionStep a va b vb) (UnionEnd a va b vb) n

-- an automaton of a projection's occurrences
pub record IsProjectNfa (a : DeterministicAutomaton) (va keep : List (List ℕ)) (n : Automaton) : Type 0 where
  pub variables : n.variables ≡ length keep
  pub parts : HasParts (states_of a) (ProjectStep a va keep) (ProjectEnd a va keep) n
