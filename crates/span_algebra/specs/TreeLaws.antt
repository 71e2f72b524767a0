-- Laws of the automata of trees.
use Rattle.std.specs.Prelude.{◌≡◌, ℕ, ◌<◌, ◌≤◌, ◌↔◌, true, List, [], ◌∷◌, length, Some, Contains}
use Rattle.span_types.specs.FormulaTree.{FormulaTree, Capture, Set, var_bound}
use Rattle.span_types.specs.Query.{Query, Leaf, Union, Join, Project}
use Rattle.span_types.specs.Rel.{names_of}
use Rattle.marker_nfa.specs.Automaton.{Automaton}
use Rattle.marker_nfa.specs.Occurrences.{IsPositionAutomaton}
use Rattle.marker_dfa.specs.Reached.{CountIsAbove}
use Rattle.marker_dfa.specs.Deterministic.{AcceptsSame, AreTooMany, DeterministicAutomaton, IsDeterminized, ends_of, next_of, states_of}
use Rattle.span_algebra.specs.TreeAutomaton.{JoinStep, ProjectStep, UnionStep, join_size, union_size}
use Rattle.span_algebra.specs.Trees.{IsTreeAutomaton, TreeCountIsAbove}

-- two automata differ in the numbers of their states alone: the start is the same, and steps and ends go with the states
pub record IsRenumbered (d e : DeterministicAutomaton) : Type 0 where
  pub to : ℕ → ℕ
  pub from : ℕ → ℕ
  pub variables : d.variables ≡ e.variables
  pub states : states_of d ≡ states_of e
  pub start : to 0 ≡ 0
  pub there : (q : ℕ) → q < states_of d → (to q < states_of e) × (from (to q) ≡ q)
  pub back : (q : ℕ) → q < states_of e → (from q < states_of d) × (to (from q) ≡ q)
  pub steps : (q m b r : ℕ) → q < states_of d → r < states_of d → next_of d q m b ≡ Some r ↔ next_of e (to q) m b ≡ Some (to r)
  pub ends : (q m : ℕ) → q < states_of d → Contains (ends_of d q) m ↔ Contains (ends_of e (to q)) m

-- a tree has one automaton, up to the numbers of its states
abbrev pub OneAutomaton : Type 0
OneAutomaton = (q : Query) (d e : DeterministicAutomaton) → IsTreeAutomaton q d → IsTreeAutomaton q e → IsRenumbered d e

-- so the count of an operation is that of any automata of its operands
pub record CountsByAny : Type 0 where
  pub union : (n : ℕ) (l r : Query) (a b : DeterministicAutomaton) → IsTreeAutomaton l a → IsTreeAutomaton r b
      → TreeCountIsAbove n (Union l r) ↔ CountIsAbove n (union_size a b) (UnionStep a (names_of l) b (names_of r))
  pub join : (n : ℕ) (l r : Query) (a b : DeterministicAutomaton) → IsTreeAutomaton l a → IsTreeAutomaton r b → states_of b ≤ 1024
      → TreeCountIsAbove n (Join l r) ↔ CountIsAbove n (join_size a) (JoinStep a (names_of l) b (names_of r))
  pub project : (n : ℕ) (q : Query) (keep : List (List ℕ)) (a : DeterministicAutomaton) → IsTreeAutomaton q a
      → TreeCountIsAbove n (Project q keep) ↔ CountIsAbove n (states_of a) (ProjectStep a (names_of q) keep)

-- the count is the number of the automaton's states
abbrev pub CountIsStates : Type 0
CountIsStates = (n : ℕ) (q : Query) (d : DeterministicAutomaton) → IsTreeAutomaton q d → TreeCountIsAbove n q ↔ n < states_of d

-- the subset construction turns a formula's position automaton into an automaton of the Leaf, and it has more states
-- than a limit exactly if the count is above it
pub record LeafAutomata : Type 0 where
  pub automaton : (f : FormulaTree) (names : List (List ℕ)) (a : Automaton) (d : DeterministicAutomaton) → var_bound f ≡ length names
      → IsPositionAutomaton f a → IsDeterminized a d → AcceptsSame a d → IsTreeAutomaton (Leaf f names) d
  pub count : (most : ℕ) (f : FormulaTree) (names : List (List ℕ)) (a : Automaton) → IsPositionAutomaton f a → AreTooMany most a ↔ TreeCountIsAbove most (Leaf f names)

-- the query of x{0}, which has a byte 0 and a variable of this name around it
abbrev pub one_byte : List ℕ → Query
one_byte name = Leaf (Capture 0 (Set (true ∷ []))) (name ∷ [])

-- two states, with one step, by this mark and the byte 0, and one end, with this mark
pub record HasOneStep (variables by last : ℕ) (d : DeterministicAutomaton) : Type 0 where
  pub count : d.variables ≡ variables
  pub states : states_of d ≡ 2
  pub steps : (q m b r : ℕ) → next_of d q m b ≡ Some r ↔ (q ≡ 0) × (m ≡ by) × (b ≡ 0) × (r ≡ 1)
  pub ends : (q m : ℕ) → Contains (ends_of d q) m ↔ (q ≡ 1) × (m ≡ last)

-- the automata of x{0}, of its union with itself, of its join with y{0}, and of its projection to no name
pub record TreeRows : Type 0 where
  pub leaf : (name : List ℕ) (d : DeterministicAutomaton) → HasOneStep 1 1 2 d → IsTreeAutomaton (one_byte name) d
  pub union : (d : DeterministicAutomaton) → HasOneStep 1 1 2 d → IsTreeAutomaton (Union (one_byte (120 ∷ [])) (one_byte (120 ∷ []))) d
  pub join : (a d : DeterministicAutomaton) → HasOneStep 1 1 2 a → HasOneStep 2 5 10 d → IsTreeAutomaton (Join (one_byte (120 ∷ [])) (one_byte (121 ∷ []))) d
  pub project : (a d : DeterministicAutomaton) → HasOneStep 1 1 2 a → HasOneStep 0 0 0 d → IsTreeAutomaton (Project (one_byte (120 ∷ [])) []) d
