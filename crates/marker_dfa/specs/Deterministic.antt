-- Deterministic automata as their users see them.
use Rattle.std.specs.Prelude.{◌≡◌, ℕ, ◌<◌, ◌≤◌, ◌^◌, ◌==◌, ◌↔◌, List, [], ◌∷◌, length, Option, Some, None, slice_get, Contains, AllPairs, if◌then◌else◌}
use Rattle.formula_law.specs.Accepts.{MarkedText}
use Rattle.marker_nfa.specs.Automaton.{Automaton, AcceptsText, IsMarked, MayEnd, Moves}
use Rattle.marker_dfa.specs.declared.dfa.Cell.{Cell}
use Rattle.marker_dfa.specs.declared.dfa.Row.{Row}
use Rattle.marker_dfa.specs.Reached.{AreReached, CountIsAbove, IsIn, IsMove, IsReached, Subset, start_set}

-- the number of variables, the class of each byte, and a row for each state, with a cell for each class
pub record DeterministicAutomaton : Type 0 where
  pub variables : ℕ
  pub classes : List ℕ
  pub rows : List Row

-- the number of states
abbrev pub states_of : DeterministicAutomaton → ℕ
states_of d = length d.rows

-- apply a function to a value, if it is present
abbrev pub and_then : {X Y : Type 0} → Option X → (X → Option Y) → Option Y
and_then None f = None
and_then (Some x) f = f x

-- the cell of a state and a byte
abbrev pub cell_of : DeterministicAutomaton → ℕ → ℕ → Option Cell
cell_of d q b = and_then (slice_get d.rows q) (λ r. and_then (slice_get d.classes b) (λ c. slice_get r.cells.items c))

-- the target at the index of a mark
abbrev pub find_target : List ℕ → List ℕ → ℕ → Option ℕ
find_target [] ts m = None
find_target (n ∷ ms) [] m = None
find_target (n ∷ ms) (t ∷ ts) m = if n == m then Some t else find_target ms ts m

abbrev pub marks_in : Option Cell → List ℕ
marks_in None = []
marks_in (Some c) = c.marks.items

-- the marks with which the row of a state accepts at the end of a text
abbrev pub ends_in : Option Row → List ℕ
ends_in None = []
ends_in (Some r) = r.ends.items

-- the next state by a mark and a byte, if any
abbrev pub next_of : DeterministicAutomaton → ℕ → ℕ → ℕ → Option ℕ
next_of d q m b = and_then (cell_of d q b) (λ c. find_target c.marks.items c.targets.items m)

-- the marks with a next state for a byte
abbrev pub marks_of : DeterministicAutomaton → ℕ → ℕ → List ℕ
marks_of d q b = marks_in (cell_of d q b)

-- two bytes lead from each state to the same states, with the same marks
abbrev pub AreAlike : DeterministicAutomaton → ℕ → ℕ → Type 0
AreAlike d b c = (q m : ℕ) → next_of d q m b ≡ next_of d q m c

-- the marks with which a text may end
abbrev pub ends_of : DeterministicAutomaton → ℕ → List ℕ
ends_of d q = ends_in (slice_get d.rows q)

-- the state after some pairs of a mark and a byte, if any
abbrev pub path : (ℕ → ℕ → ℕ → Option ℕ) → List (ℕ × ℕ) → ℕ → Option ℕ
path go [] q = Some q
path go (c ∷ w) q = and_then (go q c.0 c.1) (path go w)

-- the automaton accepts a marked text
pub record PathAccepts (d : DeterministicAutomaton) (w : MarkedText) : Type 0 where
  pub state : ℕ
  pub leads : path (next_of d) w.pairs 0 ≡ Some state
  pub may_end : Contains (ends_of d state) w.last

-- what holds of every automaton of the type Dfa: its states are few, its lists are descending, and each accepted text
-- of at most 2^48 bytes has the marks of a tuple
pub record IsDeterministic (d : DeterministicAutomaton) : Type 0 where
  pub has_start : 0 < states_of d
  pub few_states : states_of d ≤ 1024
  pub few_variables : d.variables ≤ 8
  pub within : (q m b r : ℕ) → next_of d q m b ≡ Some r → r < states_of d
  pub marks : (q b m : ℕ) → Contains (marks_of d q b) m ↔ (r : ℕ) × (next_of d q m b ≡ Some r)
  pub marks_fall : (q b : ℕ) → AllPairs (λ x y. y < x) (marks_of d q b)
  pub ends_fall : (q : ℕ) → AllPairs (λ x y. y < x) (ends_of d q)
  pub marks_small : (q b m : ℕ) → Contains (marks_of d q b) m → m < 4 ^ d.variables
  pub ends_small : (q m : ℕ) → Contains (ends_of d q) m → m < 4 ^ d.variables
  pub accepted : (w : MarkedText) → length w.pairs ≤ 281474976710656 → PathAccepts d w → IsMarked d.variables w

-- each byte has a class, and each row a cell for it
pub record IsWide (d : DeterministicAutomaton) : Type 0 where
  pub bytes : length d.classes ≡ 256
  pub cells : (q b c : ℕ) (r : Row) → slice_get d.rows q ≡ Some r → slice_get d.classes b ≡ Some c → c < length r.cells.items

-- the states are the reached sets, exactly one for each, the first for the start, with their moves and ends
pub record IsAutomatonOf (n : ℕ) (Step : ℕ → ℕ → ℕ → ℕ → Type 0) (End : ℕ → ℕ → Type 0) (d : DeterministicAutomaton) : Type 0 where
  pub subsets : List Subset
  pub states : length subsets ≡ states_of d
  pub start : slice_get subsets 0 ≡ Some (start_set n)
  pub sets : AreReached n Step subsets
  pub all : (x : Subset) → IsReached n Step x → (q : ℕ) × (slice_get subsets q ≡ Some x)
  pub goes : (q m b r : ℕ) (x : Subset) → slice_get subsets q ≡ Some x → next_of d q m b ≡ Some r → (y : Subset) × (p : ℕ) × (slice_get subsets r ≡ Some y) × IsMove n Step x m b y × IsIn y p
  pub stays : (q m b : ℕ) (x : Subset) → slice_get subsets q ≡ Some x → next_of d q m b ≡ None → (o p : ℕ) → IsIn x o → Step o m b p → ⊥
  pub ends_are : (q m : ℕ) (x : Subset) → slice_get subsets q ≡ Some x → Contains (ends_of d q) m ↔ (o : ℕ) × IsIn x o × End o m

-- the states are the sets that an automaton reaches
abbrev pub IsDeterminized : Automaton → DeterministicAutomaton → Type 0
IsDeterminized a d = IsAutomatonOf a.states (Moves a) (MayEnd a) d

-- an automaton reaches more sets than `most`
abbrev pub AreTooMany : ℕ → Automaton → Type 0
AreTooMany most a = CountIsAbove most a.states (Moves a)

-- the two automata have the same variables and accept the same marked texts
pub record AcceptsSame (a : Automaton) (d : DeterministicAutomaton) : Type 0 where
  pub variables : d.variables ≡ a.variables
  pub texts : (w : MarkedText) → PathAccepts d w ↔ AcceptsText a w
