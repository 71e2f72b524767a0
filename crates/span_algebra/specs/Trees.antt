-- Tree automaton: the automata of a query's tree, and its count.
use Rattle.std.specs.Prelude.{◌≡◌, ℕ, suc, ◌≤◌, List, length}
use Rattle.span_types.specs.FormulaTree.{sets}
use Rattle.span_types.specs.Query.{Query, Leaf, Union, Join, Project}
use Rattle.span_types.specs.Rel.{names_of}
use Rattle.formula_law.specs.Accepts.{Steps}
use Rattle.formula_law.specs.Positions.{IsEnd}
use Rattle.marker_dfa.specs.Reached.{CountIsAbove}
use Rattle.marker_dfa.specs.Deterministic.{DeterministicAutomaton, IsAutomatonOf, states_of}
use Rattle.span_algebra.specs.TreeAutomaton.{JoinEnd, JoinStep, ProjectEnd, ProjectStep, UnionEnd, UnionStep, join_size, union_size}

-- an automaton of n occurrences, with a variable for each name
pub record IsNamedAutomaton (names : List (List ℕ)) (n : ℕ) (Step : ℕ → ℕ → ℕ → ℕ → Type 0) (End : ℕ → ℕ → Type 0) (d : DeterministicAutomaton) : Type 0 where
  pub variables : d.variables ≡ length names
  pub automaton : IsAutomatonOf n Step End d

-- P of some automaton of an operation's source
pub record OfSource (L : DeterministicAutomaton → Type 0) (P : DeterministicAutomaton → Type 0) : Type 0 where
  pub source : DeterministicAutomaton
  pub source_is : L source
  pub holds : P source

-- P of some automata of an operation's two sides
pub record OfSides (L R : DeterministicAutomaton → Type 0) (P : DeterministicAutomaton → DeterministicAutomaton → Type 0) : Type 0 where
  pub left : DeterministicAutomaton
  pub right : DeterministicAutomaton
  pub left_is : L left
  pub right_is : R right
  pub holds : P left right

-- an automaton of a tree. A Leaf has the occurrences of its formula. An operation has those made of the states of its
-- operands' automata: pair_of numbers the pairs of a Join if the right side has at most 1024 states.
abbrev pub IsTreeAutomaton : Query → DeterministicAutomaton → Type 0
IsTreeAutomaton (Leaf f names) d = IsNamedAutomaton names (suc (sets f)) (Steps f) (IsEnd f) d
IsTreeAutomaton (Union l r) d = OfSides (IsTreeAutomaton l) (IsTreeAutomaton r) (λ a b. IsNamedAutomaton (names_of (Union l r)) (union_size a b) (UnionStep a (names_of l) b (names_of r)) (UnionEnd a (names_of l) b (names_of r)) d)
IsTreeAutomaton (Join l r) d = OfSides (IsTreeAutomaton l) (IsTreeAutomaton r) (λ a b. (states_of b ≤ 1024) × IsNamedAutomaton (names_of (Join l r)) (join_size a) (JoinStep a (names_of l) b (names_of r)) (JoinEnd a (names_of l) b (names_of r)) d)
IsTreeAutomaton (Project q keep) d = OfSource (IsTreeAutomaton q) (λ a. IsNamedAutomaton keep (states_of a) (ProjectStep a (names_of q) keep) (ProjectEnd a (names_of q) keep) d)

-- Count of a tree is above a limit: its occurrences have more reached sets
abbrev pub TreeCountIsAbove : ℕ → Query → Type 0
TreeCountIsAbove n (Leaf f names) = CountIsAbove n (suc (sets f)) (Steps f)
TreeCountIsAbove n (Union l r) = OfSides (IsTreeAutomaton l) (IsTreeAutomaton r) (λ a b. CountIsAbove n (union_size a b) (UnionStep a (names_of l) b (names_of r)))
TreeCountIsAbove n (Join l r) = OfSides (IsTreeAutomaton l) (IsTreeAutomaton r) (λ a b. (states_of b ≤ 1024) × CountIsAbove n (join_size a) (JoinStep a (names_of l) b (names_of r)))
TreeCountIsAbove n (Project q keep) = OfSource (IsTreeAutomaton q) (λ a. CountIsAbove n (states_of a) (ProjectStep a (names_of q) keep))
