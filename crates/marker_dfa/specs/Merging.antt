-- Merging of states that accept the same marked texts.
use Rattle.std.specs.Prelude.{◌≡◌, ℕ, ◌<◌, ◌≤◌, ◌↔◌, ◌⊎◌, List, length, map, Some, slice_get, slice_index_or, Contains}
use Rattle.formula_law.specs.Accepts.{MarkedText}
use Rattle.marker_dfa.specs.Deterministic.{DeterministicAutomaton, PathAccepts, ends_of, next_of, path, states_of}
use Rattle.marker_dfa.specs.declared.dfa.Cell.{Cell}
use Rattle.marker_dfa.specs.declared.dfa.Row.{Row}

-- two automata have the same variables and accept the same marked texts
pub record AcceptsAlike (d e : DeterministicAutomaton) : Type 0 where
  pub variables : e.variables ≡ d.variables
  pub texts : (w : MarkedText) → PathAccepts e w ↔ PathAccepts d w

-- the automaton accepts a marked text that begins in a state
pub record AcceptsFrom (d : DeterministicAutomaton) (q : ℕ) (w : MarkedText) : Type 0 where
  pub state : ℕ
  pub leads : path (next_of d) w.pairs q ≡ Some state
  pub may_end : Contains (ends_of d state) w.last

-- two states accept the same marked texts
abbrev pub AreEquivalent : DeterministicAutomaton → ℕ → ℕ → Type 0
AreEquivalent d p q = (w : MarkedText) → AcceptsFrom d p w ↔ AcceptsFrom d q w

-- two targets have one representative, or they are the two states whose rows are compared
abbrev pub AreTargetsAlike : List ℕ → ℕ → ℕ → ℕ → ℕ → Type 0
AreTargetsAlike into p q t u = (slice_get into t ≡ slice_get into u) ⊎ ((t ≡ p) × (slice_get into u ≡ Some q))

-- the cells of the states p and q have the same marks, each with targets that are alike
pub record AreCellsAlike (into : List ℕ) (p q : ℕ) (c e : Cell) : Type 0 where
  pub marks : c.marks.items ≡ e.marks.items
  pub targets : (i t u : ℕ) → slice_get c.targets.items i ≡ Some t → slice_get e.targets.items i ≡ Some u → AreTargetsAlike into p q t u
  pub even : length c.targets.items ≡ length e.targets.items

-- the rows of the states p and q have the same ends, and cells that are alike
pub record AreRowsAlike (into : List ℕ) (p q : ℕ) (r s : Row) : Type 0 where
  pub ends : r.ends.items ≡ s.ends.items
  pub even : length r.cells.items ≡ length s.cells.items
  pub cells : (i : ℕ) (c e : Cell) → slice_get r.cells.items i ≡ Some c → slice_get s.cells.items i ≡ Some e → AreCellsAlike into p q c e

-- each state has a representative, itself or a later state, which accepts the same and represents itself
pub record AreRepresentatives (d : DeterministicAutomaton) (into : List ℕ) : Type 0 where
  pub size : length into ≡ states_of d
  pub within : (q r : ℕ) → slice_get into q ≡ Some r → (q ≤ r) × (r < states_of d)
  pub own : (q r : ℕ) → slice_get into q ≡ Some r → slice_get into r ≡ Some r
  pub same : (q r : ℕ) → slice_get into q ≡ Some r → AreEquivalent d q r

-- the representatives, that of the start first and none twice, and for each state the index of its representative
pub record AreNumbered (into kept numbers : List ℕ) : Type 0 where
  pub size : length numbers ≡ length into
  pub few : length kept ≤ length into
  pub start : slice_get kept 0 ≡ slice_get into 0
  pub number : (q k r : ℕ) → slice_get numbers q ≡ Some k → slice_get into q ≡ Some r → slice_get kept k ≡ Some r
  pub back : (k r : ℕ) → slice_get kept k ≡ Some r → (slice_get into r ≡ Some r) × (slice_get numbers r ≡ Some k)

-- the cell with new numbers of its targets
pub record IsCellUnder (numbers : List ℕ) (old new : Cell) : Type 0 where
  pub marks : new.marks.items ≡ old.marks.items
  pub targets : new.targets.items ≡ map (λ t. slice_index_or numbers t 0) old.targets.items

-- the row with new numbers of its targets
pub record IsRowUnder (numbers : List ℕ) (old new : Row) : Type 0 where
  pub ends : new.ends.items ≡ old.ends.items
  pub even : length new.cells.items ≡ length old.cells.items
  pub cells : (i : ℕ) (c e : Cell) → slice_get old.cells.items i ≡ Some c → slice_get new.cells.items i ≡ Some e → IsCellUnder numbers c e

-- the rows of the representatives, with new numbers of their targets
pub record AreRowsUnder (kept numbers : List ℕ) (old new : List Row) : Type 0 where
  pub even : length new ≡ length kept
  pub rows : (k q : ℕ) (r s : Row) → slice_get kept k ≡ Some q → slice_get old q ≡ Some r → slice_get new k ≡ Some s → IsRowUnder numbers r s
