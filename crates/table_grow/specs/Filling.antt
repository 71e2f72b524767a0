-- What a contract sees of a `Filling`, and what holds while the tables of new nodes are computed.
use Rattle.std.specs.Prelude.{◌≡◌, ◌≢◌, ℕ, ◌<◌, ◌≤◌, List, length, Option, Some, None, IsSome, All, AllPairs, slice_get}
use Rattle.slp_model.specs.declared.NodeId.{NodeId}
use Rattle.slp_model.specs.declared.Node.{Node}
use Rattle.slp_model.specs.declared.Node.TheVariants.{Pair}
use Rattle.slp_model.specs.Tree.{text, height}
use Rattle.slp_model.specs.Nodes.{tree, IsSound}
use Rattle.marker_dfa.specs.Deterministic.{DeterministicAutomaton, IsDeterministic, states_of}
use Rattle.state_tables.specs.Table.{Row}
use Rattle.state_tables.specs.Meaning.{IsTable}
use Rattle.state_tables.specs.Dictionary.{Dictionary, count_of, distinct_of, kept_of}
use Rattle.table_grow.specs.Assignment.{AreKept, Assignment, ChildrenAssigned, Fits, HasTrueTable, number_in}
use Rattle.pair_memo.specs.Entries.{Entry}
use Rattle.table_grow.specs.Remembering.{AreTrueEntries}

-- an automaton, nodes, their tables, which new nodes are assigned, and cached compositions
pub record Filling : Type 0 where
  pub automaton : DeterministicAutomaton
  pub nodes : List Node
  pub tables : Dictionary
  pub filler : Assignment
  pub entries : List Entry

-- the filling of these parts
abbrev pub filling_of : DeterministicAutomaton → List Node → Dictionary → Assignment → List Entry → Filling
filling_of a nodes d f es = record { automaton = a; nodes = nodes; tables = d; filler = f; entries = es }

-- the number of the node's table, if the node is old or assigned
abbrev pub assigned : Filling → ℕ → Option ℕ
assigned s id = number_in s.tables s.filler id

-- the table is that of the node's text
abbrev pub IsTableOfNode : Filling → ℕ → List Row → Type 0
IsTableOfNode s id t = IsTable s.automaton (text (tree s.nodes id)) t

-- the kept table of this number is that of the node's text
pub record IsNumberOf (s : Filling) (id n : ℕ) : Type 0 where
  pub within : n < distinct_of s.tables
  pub table : IsTableOfNode s id (kept_of s.tables n)

-- what holds of each filling: old and assigned nodes have the tables of their texts, and the cached compositions are true
pub record IsReady (s : Filling) : Type 0 where
  pub automaton : IsDeterministic s.automaton
  pub sound : IsSound s.nodes
  pub fits : Fits s.nodes s.tables s.filler
  pub states : s.tables.states ≡ states_of s.automaton
  pub all : (id : ℕ) → HasTrueTable s.automaton s.nodes s.tables s.filler id
  pub entries : AreTrueEntries s.tables s.entries

-- the node is new and not assigned, and its children are old or assigned
pub record IsDue (s : Filling) (id : NodeId) : Type 0 where
  pub new : s.filler.known ≤ id.index
  pub live : id.index < length s.nodes
  pub free : assigned s id.index ≡ None
  pub children : ChildrenAssigned s.nodes s.tables s.filler id.index

-- so is each of these nodes, and no two are one
pub record AreDue (s : Filling) (ids : List NodeId) : Type 0 where
  pub each : All (IsDue s) ids
  pub once : AllPairs (λ x y. x.index ≢ y.index) ids

-- the node is a pair, and these are the numbers of its children's tables
pub record AreParts (s : Filling) (id : ℕ) (p : ℕ × ℕ) : Type 0 where
  pub left : NodeId
  pub right : NodeId
  pub node : slice_get s.nodes id ≡ Some (Pair left right)
  pub left_is : assigned s left.index ≡ Some p.0
  pub right_is : assigned s right.index ≡ Some p.1
  pub left_within : p.0 < distinct_of s.tables
  pub right_within : p.1 < distinct_of s.tables

-- more tables are kept, and old and assigned nodes stay so
pub record Continues (s t : Filling) : Type 0 where
  pub kept : AreKept s.tables t.tables
  pub same : t ≡ record s { tables = t.tables; filler = t.filler; entries = t.entries }
  pub known : t.filler.known ≡ s.filler.known
  pub still : (id : ℕ) → IsSome (assigned s id) → IsSome (assigned t id)

-- this node is assigned, and no other
pub record AssignsOne (s t : Filling) (id : NodeId) : Type 0 where
  pub continues : Continues s t
  pub placed : IsSome (assigned t id.index)
  pub others : (j : ℕ) → id.index ≢ j → assigned t j ≡ assigned s j

-- these nodes are assigned, and no others
pub record Assigns (s t : Filling) (ids : List NodeId) : Type 0 where
  pub continues : Continues s t
  pub placed : All (λ id. IsSome (assigned t id.index)) ids
  pub others : (j : ℕ) → All (λ id. id.index ≢ j) ids → assigned t j ≡ assigned s j

-- the nodes below the bound are old or assigned, and no further new one
pub record IsFilledTo (s : Filling) (bound : ℕ) : Type 0 where
  pub new : s.filler.known ≤ bound
  pub placed : (id : ℕ) → id < bound → IsSome (assigned s id)
  pub free : (id : ℕ) → s.filler.known ≤ id → bound ≤ id → assigned s id ≡ None

-- every node is old or assigned
abbrev pub IsFilled : Filling → Type 0
IsFilled s = (id : ℕ) → id < length s.nodes → IsSome (assigned s id)

-- the nodes from `from` on and before `to` are assigned by rising height: those before them and the lower ones are old or assigned, and no further new one
pub record IsFilledUnder (s : Filling) (from to top : ℕ) : Type 0 where
  pub new : s.filler.known ≤ from
  pub before : (id : ℕ) → id < from → IsSome (assigned s id)
  pub under : (id : ℕ) → id < to → height (tree s.nodes id) < top → IsSome (assigned s id)
  pub above : (id : ℕ) → from ≤ id → id < to → top ≤ height (tree s.nodes id) → assigned s id ≡ None
  pub behind : (id : ℕ) → s.filler.known ≤ id → to ≤ id → assigned s id ≡ None

-- the parts of tables and a cache before any new node is assigned
pub record Starts (a : DeterministicAutomaton) (nodes : List Node) (d : Dictionary) (es : List Entry) (s : Filling) : Type 0 where
  pub same : s ≡ filling_of a nodes (record d { room = s.tables.room }) s.filler es
  pub known : s.filler.known ≡ count_of d
  pub filled : IsFilledTo s (count_of d)
