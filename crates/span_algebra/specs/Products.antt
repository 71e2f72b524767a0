-- The steps and ends of pairs of states, and the automaton of a join's reached pairs.
use Rattle.std.specs.Prelude.{◌≡◌, ℕ, ◌<◌, ◌≤◌, ◌↔◌, List, length, map, Some, slice_get, Contains}
use Rattle.marker_nfa.specs.declared.nfa.Edge.{Edge}
use Rattle.marker_nfa.specs.declared.nfa.End.{End}
use Rattle.marker_dfa.specs.Reached.{IsReached, single}
use Rattle.marker_dfa.specs.Deterministic.{DeterministicAutomaton, ends_of, marks_of, next_of, states_of}
use Rattle.span_algebra.specs.declared.classes.Class.{Class}
use Rattle.span_algebra.specs.declared.exploring.Explored.{Explored}
use Rattle.span_algebra.specs.declared.joints.Joint.{Joint}
use Rattle.span_algebra.specs.declared.joints.Meeting.{Meeting}
use Rattle.span_algebra.specs.declared.pairs.Pair.{Pair}
use Rattle.span_algebra.specs.declared.pairs.PairStep.{PairStep}
use Rattle.marker_nfa.specs.Automaton.{Automaton, Moves, MayEnd}
use Rattle.span_algebra.specs.Joints.{AreShortWith, IsJointAmong}
use Rattle.span_algebra.specs.Pairs.{AreFew, IsNumbered, number_of}
use Rattle.span_algebra.specs.Renaming.{both_names}
use Rattle.span_algebra.specs.TreeAutomaton.{JoinEnd, JoinStep, join_size}

-- the step of a pair by a joint mark and the first byte of a class
abbrev pub IsPairStepBy : DeterministicAutomaton → DeterministicAutomaton → Pair → Class → Joint → PairStep → Type 0
IsPairStepBy a b pair c j s = (next_left : ℕ) × (next_right : ℕ) × (next_of a pair.left j.left c.first ≡ Some next_left) × (next_of b pair.right j.right c.first ≡ Some next_right) × (s ≡ record { from = pair; mark = j.mark; letters = c.letters; to = record { left = next_left; right = next_right } })

-- the same for some joint mark
abbrev pub IsPairStepOf : DeterministicAutomaton → DeterministicAutomaton → Meeting → Pair → Class → PairStep → Type 0
IsPairStepOf a b t pair c s = (j : Joint) × IsJointAmong t (marks_of a pair.left c.first) (marks_of b pair.right c.first) j × IsPairStepBy a b pair c j s

-- the same for some class of a list
abbrev pub IsPairStepAmong : DeterministicAutomaton → DeterministicAutomaton → Meeting → Pair → List Class → PairStep → Type 0
IsPairStepAmong a b t pair classes s = (c : Class) × Contains classes c × IsPairStepOf a b t pair c s

-- an end of a pair, which has this index
abbrev pub IsPairEndBy : ℕ → Joint → End → Type 0
IsPairEndBy index j e = e ≡ record { state = index; mark = j.mark }

abbrev pub IsPairEndOf : DeterministicAutomaton → DeterministicAutomaton → Meeting → Pair → ℕ → End → Type 0
IsPairEndOf a b t pair index e = (j : Joint) × IsJointAmong t (ends_of a pair.left) (ends_of b pair.right) j × IsPairEndBy index j e

-- an end of a pair of a list
pub record IsPairEnd (a b : DeterministicAutomaton) (t : Meeting) (pairs : List Pair) (e : End) : Type 0 where
  pub pair : Pair
  pub there : slice_get pairs e.state ≡ Some pair
  pub end : IsPairEndOf a b t pair e.state e

-- the sum of the mark of a left step or end and what any mark of the right adds fits 16 bits
pub record AreShortSteps (a : DeterministicAutomaton) (t : Meeting) : Type 0 where
  pub marks : (q b : ℕ) → AreShortWith t (marks_of a q b)
  pub ends : (q : ℕ) → AreShortWith t (ends_of a q)

-- both states of a pair exist
abbrev pub IsPair : DeterministicAutomaton → DeterministicAutomaton → Pair → Type 0
IsPair a b p = (p.left < states_of a) × (p.right < states_of b)

-- a step by the first byte of a class, with all of its bytes, to the pair with the occurrence's number
pub record IsStepOf (Step : ℕ → ℕ → ℕ → ℕ → Type 0) (classes : List Class) (s : PairStep) : Type 0 where
  pub class : Class
  pub among : Contains classes class
  pub letters : s.letters ≡ class.letters
  pub step : Step (number_of s.from) s.mark class.first (number_of s.to)
  pub below : s.to.right < 1024

-- the pair is one of the first k
abbrev pub IsAmongFirst : ℕ → List Pair → Pair → Type 0
IsAmongFirst k pairs p = (i : ℕ) × (i < k) × (slice_get pairs i ≡ Some p)

-- a step of one of the first k pairs
abbrev pub IsStepOfFirst : (ℕ → ℕ → ℕ → ℕ → Type 0) → List Class → ℕ → List Pair → PairStep → Type 0
IsStepOfFirst Step classes k pairs s = IsAmongFirst k pairs s.from × IsStepOf Step classes s

-- at most `most` distinct reached pairs, the first for the start, and the steps of the first k of them, which lead to
-- pairs of them, as edges between their indices
pub record AreFound (most : ℕ) (a b : DeterministicAutomaton) (n : ℕ) (Step : ℕ → ℕ → ℕ → ℕ → Type 0) (classes : List Class) (k : ℕ) (pairs : List Pair) (edges : List Edge) : Type 0 where
  pub few : AreFew most pairs
  pub passed : k ≤ length pairs
  pub start : slice_get pairs 0 ≡ Some (record { left = 0; right = 0 })
  pub within : (p : Pair) → Contains pairs p → IsPair a b p
  pub reached : (p : Pair) → Contains pairs p → IsReached n Step (single n (number_of p))
  pub edges_are : (x : Edge) → Contains edges x ↔ (s : PairStep) × IsStepOfFirst Step classes k pairs s × IsNumbered pairs s x
  pub closed : (s : PairStep) → IsStepOfFirst Step classes k pairs s → Contains pairs s.to

-- An automaton whose states are the indices of distinct occurrences, among them every one to which a step leads from
-- another.
pub record HasNumbered (n : ℕ) (Step : ℕ → ℕ → ℕ → ℕ → Type 0) (End : ℕ → ℕ → Type 0) (pairs : List ℕ) (a : Automaton) : Type 0 where
  pub states : a.states ≡ length pairs
  pub apart : (i j o : ℕ) → slice_get pairs i ≡ Some o → slice_get pairs j ≡ Some o → i ≡ j
  pub start : slice_get pairs 0 ≡ Some 0
  pub within : (i o : ℕ) → slice_get pairs i ≡ Some o → o < n
  pub step_to : (i m b j : ℕ) → Moves a i m b j → (o : ℕ) × (p : ℕ) × (slice_get pairs i ≡ Some o) × (slice_get pairs j ≡ Some p) × Step o m b p
  pub step_from : (i o m b p : ℕ) → slice_get pairs i ≡ Some o → Step o m b p → (j : ℕ) × (slice_get pairs j ≡ Some p) × Moves a i m b j
  pub end_to : (i m : ℕ) → MayEnd a i m → (o : ℕ) × (slice_get pairs i ≡ Some o) × End o m
  pub end_from : (i o m : ℕ) → slice_get pairs i ≡ Some o → End o m → MayEnd a i m

-- the pairs that a join reaches, at most `most`, and their steps by classes of bytes, as edges
pub record IsExplored (most : ℕ) (a : DeterministicAutomaton) (va : List (List ℕ)) (b : DeterministicAutomaton) (vb : List (List ℕ)) (classes : List Class) (x : Explored) : Type 0 where
  pub found : AreFound most a b (join_size a) (JoinStep a va b vb) classes (length x.pairs.items) x.pairs.items x.edges

-- an automaton of a join's reached pairs
pub record IsJoinNfa (a : DeterministicAutomaton) (va : List (List ℕ)) (b : DeterministicAutomaton) (vb : List (List ℕ)) (n : Automaton) : Type 0 where
  pub variables : n.variables ≡ length (both_names va vb)
  pub pairs : List Pair
  pub parts : HasNumbered (join_size a) (JoinStep a va b vb) (JoinEnd a va b vb) (map number_of pairs) n
