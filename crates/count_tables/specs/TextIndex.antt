-- Answers by their positions in the list, and how the one at a position is found.
use Rattle.std.specs.Prelude.{◌≡◌, ℕ, ◌+◌, ◌-◌, ◌*◌, ◌<◌, ◌≤◌, false, List, ◌++◌, length, slice_get, slice_index_or, Option, Some}
use Rattle.span_types.specs.Words.{Marked, mark_count}
use Rattle.slp_model.specs.Tree.{Tree, text, height}
use Rattle.slp_model.specs.Nodes.{tree, IsNodeAt}
use Rattle.formula_law.specs.Law.{bytes_of}
use Rattle.marker_dfa.specs.Deterministic.{DeterministicAutomaton, IsDeterministic, states_of, next_of, marks_of, path}
use Rattle.span_enum.specs.Members.{Tuple, AreAnswersOf}
use Rattle.span_enum.specs.Tuples.{write_word}
use Rattle.path_counts.specs.Paths.{stopped}
use Rattle.path_counts.specs.Counting.{CountRow, IsCountTable, counts_at, number_onward, onward_from, unmarked_at}
use Rattle.path_counts.specs.Runs.{runs}
use Rattle.count_tables.specs.Dictionary.{AreCountTables, count_of}
use Rattle.count_tables.specs.declared.part.CountInput.{CountInput}
use Rattle.count_tables.specs.declared.part.Part.{Part}
use Rattle.count_tables.specs.declared.nth.Way.{Way}

-- the answer at the position m of the list, counted from 1, or none where there are fewer
pub record IsNth (a : DeterministicAutomaton) (s : List ℕ) (m : ℕ) (r : Option Tuple) : Type 0 where
  pub answers : List Tuple
  pub all : AreAnswersOf a s answers
  pub at_position : r ≡ slice_get answers (m - 1)

-- `after` says of each state how many texts go on from it, as it is kept
abbrev pub AreWays : ℕ → (ℕ → List Marked) → List ℕ → Type 0
AreWays n k after = (q : ℕ) → q < n → slice_index_or after q 0 ≡ stopped (length (k q))

-- how many texts with some mark lead on from p, as it is kept
abbrev pub number_marked : List CountRow → ℕ → List ℕ → ℕ
number_marked t p after = stopped (number_onward (counts_at t p) after)

-- how many texts with any marks lead on from p, as it is kept
abbrev pub number_over : List CountRow → ℕ → List ℕ → ℕ
number_over t p after = stopped (number_onward (counts_at t p) after + onward_from (unmarked_at t p) after)

-- w leads over s from p to q. Of the texts over s from p, each followed by one that goes on from its state, that at index i is w and then the
-- one at index j of those from q
pub record IsTextAt (a : DeterministicAutomaton) (s : List ℕ) (p : ℕ) (after : List ℕ) (i : ℕ) (w : Marked) (q j : ℕ) : Type 0 where
  pub bytes : bytes_of w ≡ s
  pub ends : path (next_of a) w p ≡ Some q
  pub behind : j < slice_index_or after q 0
  pub at_index : (k : ℕ → List Marked) → AreWays (states_of a) k after → (v : Marked) → slice_get (k q) j ≡ Some v
      → slice_get (runs (next_of a) (marks_of a) false k s p) i ≡ Some (w ++ v)

-- the tables are those of the automaton, for nodes of the store
pub record IsCountInput (g : CountInput) : Type 0 where
  pub automaton : IsDeterministic g.dfa.now
  pub states : g.tables.now.states ≡ states_of g.dfa.now
  pub tables : AreCountTables g.dfa.now g.store.now g.tables.now
  pub covered : count_of g.tables.now ≤ length g.store.now

-- the tree of a part
abbrev pub tree_of : CountInput → Part → Tree
tree_of g h = tree g.store.now h.id.index

-- a node with the length of its text and its counting table, and its text ends within the limit
pub record IsPart (g : CountInput) (h : Part) : Type 0 where
  pub live : h.id.index < count_of g.tables.now
  pub node_is : IsNodeAt g.store.now h.id.index h.node
  pub len_is : h.len ≡ length (text (tree_of g h))
  pub table_is : IsCountTable g.dfa.now (text (tree_of g h)) h.table.now
  pub positive : 1 ≤ h.at
  pub low : h.at + h.len ≤ 281474976710657

-- the index lies past all texts with some mark, and so the part is passed without one
pub record IsPassed (t : List CountRow) (after : List ℕ) (from to : Way) : Type 0 where
  pub step : unmarked_at t from.state ≡ Some to.state
  pub index : from.index ≡ number_marked t from.state after + to.index
  pub behind : to.index < slice_index_or after to.state 0
  pub kept : to.tuple ≡ from.tuple

-- the marks over the part were found and written
pub record Finds (g : CountInput) (here : Part) (after : List ℕ) (from to : Way) (before later : ℕ) : Type 0 where
  pub word : Marked
  pub index : IsTextAt g.dfa.now (text (tree_of g here)) from.state after from.index word to.state to.index
  pub written : to.tuple ≡ write_word here.at word from.tuple
  pub cost : later ≤ before + 2 * (height (tree_of g here) * mark_count word)
