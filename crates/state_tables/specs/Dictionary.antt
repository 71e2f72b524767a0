-- What a contract sees of `Tables`: each kept table once, a number for each node, and the room for further numbers.
use Rattle.std.specs.Prelude.{◌≡◌, ◌⊎◌, ℕ, ◌<◌, ◌≤◌, ◌^◌, ◌++◌, List, [], ◌∷◌, length, slice_get, slice_index_or, slice_index, Some}
use Rattle.slp_model.specs.declared.Node.{Node}
use Rattle.slp_model.specs.Tree.{text, IsBalanced}
use Rattle.slp_model.specs.Nodes.{tree, IsNodeAt}
use Rattle.marker_dfa.specs.Deterministic.{DeterministicAutomaton}
use Rattle.state_tables.specs.Table.{Row, IsTableOf}
use Rattle.state_tables.specs.Meaning.{IsTable}

pub record Dictionary : Type 0 where
  pub states : ℕ
  pub kept : List (List Row)
  pub numbers : List ℕ
  pub room : ℕ

-- the number of nodes that have tables
abbrev pub count_of : Dictionary → ℕ
count_of d = length d.numbers

-- the number of kept tables
abbrev pub distinct_of : Dictionary → ℕ
distinct_of d = length d.kept

-- the number of a node's table
abbrev pub number_of : Dictionary → ℕ → ℕ
number_of d id = slice_index d.numbers id

-- the kept table with this number
abbrev pub kept_of : Dictionary → ℕ → List Row
kept_of d number = slice_index_or d.kept number []

-- the table of a node is the kept table of its number
abbrev pub table_of : Dictionary → ℕ → List Row
table_of d id = kept_of d (number_of d id)

-- no two kept tables are equal
abbrev pub AreDistinctTables : List (List Row) → Type 0
AreDistinctTables kept = (i j : ℕ) (t : List Row) → slice_get kept i ≡ Some t → slice_get kept j ≡ Some t → i ≡ j

-- the kept tables are unchanged, or this one is added last. Since no two are equal, it is added only if no equal one
-- was there
abbrev pub GainsTable : List (List Row) → List (List Row) → List Row → Type 0
GainsTable old new t = (new ≡ old) ⊎ (new ≡ old ++ t ∷ [])

-- what holds of each value of the type Tables
pub record IsDictionary (d : Dictionary) : Type 0 where
  pub few : d.states ≤ 1024
  pub narrow : distinct_of d < 2 ^ 32
  pub numbers_kept : (id : ℕ) → id < count_of d → number_of d id < distinct_of d
  pub shapes : (n : ℕ) → n < distinct_of d → IsTableOf d.states (kept_of d n)
  pub distinct : AreDistinctTables d.kept

-- each node's table is that of its text
abbrev pub AreTables : DeterministicAutomaton → List Node → Dictionary → Type 0
AreTables a nodes d = (id : ℕ) → id < count_of d → IsTable a (text (tree nodes id)) (table_of d id)

-- the result of a lookup of a node
pub record IsLook (nodes : List Node) (d : Dictionary) (id : ℕ) (node : Node) (len : ℕ) (table : List Row) : Type 0 where
  pub node_is : IsNodeAt nodes id node
  pub len_is : len ≡ length (text (tree nodes id))
  pub short : len ≤ 2 ^ 48
  pub balanced : IsBalanced (tree nodes id)
  pub table_is : table ≡ table_of d id
