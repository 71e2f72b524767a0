-- What a contract sees of `CountTables`: each kept table once, and a number for each node.
use Rattle.std.specs.Prelude.{◌≡◌, ℕ, ◌<◌, ◌^◌, List, [], length, slice_get, slice_index, slice_index_or, Bool, Some}
use Rattle.slp_model.specs.declared.Node.{Node}
use Rattle.slp_model.specs.Tree.{text}
use Rattle.slp_model.specs.Nodes.{tree}
use Rattle.marker_dfa.specs.Deterministic.{DeterministicAutomaton}
use Rattle.distinct_items.specs.Renumbering.{kept_items, used_of}
use Rattle.path_counts.specs.Counting.{CountRow, IsCountTable, IsCountTableOf}

pub record CountDictionary : Type 0 where
  pub states : ℕ
  pub kept : List (List CountRow)
  pub numbers : List ℕ

-- how many nodes have counting tables
abbrev pub count_of : CountDictionary → ℕ
count_of d = length d.numbers

-- how many tables are kept
abbrev pub distinct_of : CountDictionary → ℕ
distinct_of d = length d.kept

-- the kept table with this number
abbrev pub kept_of : CountDictionary → ℕ → List CountRow
kept_of d number = slice_index_or d.kept number []

-- the counting table of a node is the kept table of its number
abbrev pub table_of : CountDictionary → ℕ → List CountRow
table_of d id = kept_of d (slice_index d.numbers id)

-- no two kept tables are equal
abbrev pub AreDistinctTables : List (List CountRow) → Type 0
AreDistinctTables kept = (i j : ℕ) (t : List CountRow) → slice_get kept i ≡ Some t → slice_get kept j ≡ Some t → i ≡ j

-- distinct tables of n states
pub record AreKept (n : ℕ) (kept : List (List CountRow)) : Type 0 where
  pub narrow : length kept < 2 ^ 32
  pub shapes : (i : ℕ) → i < length kept → IsCountTableOf n (slice_index_or kept i [])
  pub distinct : AreDistinctTables kept

-- the numbers of nodes are those of kept tables
abbrev pub AreNumbers : List (List CountRow) → List ℕ → Type 0
AreNumbers kept numbers = (id : ℕ) → id < length numbers → slice_index numbers id < length kept

-- what holds of each value of the type CountTables
pub record IsCountDictionary (d : CountDictionary) : Type 0 where
  pub few : d.states < 2 ^ 16
  pub kept : AreKept d.states d.kept
  pub numbers : AreNumbers d.kept d.numbers

-- each node's table is the counting table of its text
abbrev pub AreCountTables : DeterministicAutomaton → List Node → CountDictionary → Type 0
AreCountTables a nodes d = (id : ℕ) → id < count_of d → IsCountTable a (text (tree nodes id)) (table_of d id)

-- of the kept tables in order whether some kept node has it
abbrev pub used_by : CountDictionary → List Bool → List Bool
used_by d keep = used_of (kept_items d.numbers keep) (distinct_of d)

-- nodes with these numbers have the counting tables of their texts
pub record AreNodeTables (a : DeterministicAutomaton) (nodes : List Node) (kept : List (List CountRow)) (numbers : List ℕ) : Type 0 where
  pub within : AreNumbers kept numbers
  pub tables : (id : ℕ) → id < length numbers → IsCountTable a (text (tree nodes id)) (slice_index_or kept (slice_index numbers id) [])
