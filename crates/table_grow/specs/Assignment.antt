-- What a contract sees of a filler: how many nodes had tables, and an entry for each new node.
use Rattle.std.specs.Prelude.{◌≡◌, ℕ, ◌+◌, ◌-◌, ◌<◌, ◌≤◌, nat_lt, List, length, map, ◌++◌, Option, Some, None, IsSome, slice_get, slice_index_or, slice_set, if◌then◌else◌}
use Rattle.slp_model.specs.declared.NodeId.{NodeId}
use Rattle.slp_model.specs.declared.Node.{Node}
use Rattle.slp_model.specs.declared.Node.TheVariants.{Pair}
use Rattle.slp_model.specs.Tree.{text}
use Rattle.slp_model.specs.Nodes.{tree}
use Rattle.marker_dfa.specs.Deterministic.{DeterministicAutomaton}
use Rattle.state_tables.specs.Table.{Row, compose_of}
use Rattle.state_tables.specs.Meaning.{IsTable}
use Rattle.state_tables.specs.Dictionary.{Dictionary, count_of, distinct_of, number_of, kept_of}

-- an entry is empty, or it has the number of a kept table
pub record Assignment : Type 0 where
  pub known : ℕ
  pub places : List (Option ℕ)

-- the number of the node's table, if the node is old or assigned
abbrev pub number_in : Dictionary → Assignment → ℕ → Option ℕ
number_in d f id = if nat_lt id f.known then Some (number_of d id) else slice_index_or f.places (id - f.known) None

-- the node's entry has this number
abbrev pub with_number : Assignment → ℕ → ℕ → Assignment
with_number f id n = record f { places = slice_set f.places (id - f.known) (Some n) }

-- the conditions of every call: the store, the tables, the room and the numbers fit the filler
pub record Fits (nodes : List Node) (d : Dictionary) (f : Assignment) : Type 0 where
  pub nodes_fit : length nodes ≡ f.known + length f.places
  pub tables_fit : count_of d ≡ f.known
  pub room_fits : length f.places ≤ d.room
  pub kept_fit : (i n : ℕ) → slice_index_or f.places i None ≡ Some n → n < distinct_of d

-- the children of a node are old or assigned
abbrev pub ChildrenAssigned : List Node → Dictionary → Assignment → ℕ → Type 0
ChildrenAssigned nodes d f id = (l r : NodeId) → slice_get nodes id ≡ Some (Pair l r) → IsSome (number_in d f l.index) × IsSome (number_in d f r.index)

-- an old or assigned node has the table of its text
abbrev pub HasTrueTable : DeterministicAutomaton → List Node → Dictionary → Assignment → ℕ → Type 0
HasTrueTable a nodes d f id = (n : ℕ) → number_in d f id ≡ Some n → IsTable a (text (tree nodes id)) (kept_of d n)

-- the children of a node have the tables of their texts
abbrev pub ChildrenTrue : DeterministicAutomaton → List Node → Dictionary → Assignment → ℕ → Type 0
ChildrenTrue a nodes d f id = (l r : NodeId) → slice_get nodes id ≡ Some (Pair l r) → HasTrueTable a nodes d f l.index × HasTrueTable a nodes d f r.index

-- the table of a pair is the composition of its children's tables
abbrev pub IsComposed : List Node → Dictionary → Assignment → ℕ → List Row → Type 0
IsComposed nodes d f id t = (l r : NodeId) (m n : ℕ) → slice_get nodes id ≡ Some (Pair l r)
    → number_in d f l.index ≡ Some m → number_in d f r.index ≡ Some n → t ≡ compose_of (kept_of d m) (kept_of d n)

-- the table is kept under a number, which the node's entry has
pub record AssignsTable (d : Dictionary) (f g : Assignment) (id : ℕ) (t : List Row) : Type 0 where
  pub number : ℕ
  pub within : number < distinct_of d
  pub table : kept_of d number ≡ t
  pub place : g ≡ with_number f id number

-- the number in an entry
abbrev pub number_of_entry : Option ℕ → ℕ
number_of_entry None = 0
number_of_entry (Some n) = n

-- every new node is assigned
abbrev pub AllAssigned : Assignment → Type 0
AllAssigned f = (i : ℕ) → i < length f.places → IsSome (slice_index_or f.places i None)

-- the tables after the assigned numbers are pushed in order
abbrev pub finished : Dictionary → Assignment → Dictionary
finished d f = record d { numbers = d.numbers ++ map number_of_entry f.places; room = d.room - length f.places }

-- the kept tables keep their numbers, and nothing else changes
pub record AreKept (d e : Dictionary) : Type 0 where
  pub kept : (n : ℕ) → n < distinct_of d → kept_of e n ≡ kept_of d n
  pub more : distinct_of d ≤ distinct_of e
  pub same : e ≡ record d { kept = e.kept }
