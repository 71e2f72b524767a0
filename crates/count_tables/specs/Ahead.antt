-- The tables of new nodes that are found before the nodes get their numbers.
use Rattle.std.specs.Prelude.{◌≡◌, ◌⊎◌, ℕ, suc, ◌+◌, ◌-◌, ◌<◌, ◌≤◌, nat_lt, List, [], ◌∷◌, ◌++◌, length, map, All, Contains, Option, Some, None, slice_get, slice_index, slice_index_or, if◌then◌else◌}
use Rattle.slp_model.specs.declared.Node.{Node}
use Rattle.slp_model.specs.declared.NodeId.{NodeId}
use Rattle.slp_model.specs.Tree.{text}
use Rattle.slp_model.specs.Nodes.{tree}
use Rattle.marker_dfa.specs.Deterministic.{DeterministicAutomaton, states_of}
use Rattle.state_tables.specs.Coded.{step_of}
use Rattle.pair_memo.specs.Entries.{Entry}
use Rattle.path_counts.specs.Counting.{CountRow, IsComposed, IsCountTable, IsCountTableOf}
use Rattle.count_tables.specs.Dictionary.{AreKept, AreNodeTables}
use Rattle.count_tables.specs.declared.ahead.Stage.{Stage}
use Rattle.count_tables.specs.declared.ahead.Stage.TheVariants.{Found, Due, Waits}
use Rattle.count_tables.specs.declared.pieces.Job.{Job}
use Rattle.count_tables.specs.declared.pieces.Made.{Made}

-- the kept table of this number is the counting table of the node's text
pub record HasTable (a : DeterministicAutomaton) (nodes : List Node) (kept : List (List CountRow)) (id n : ℕ) : Type 0 where
  pub within : n < length kept
  pub table : IsCountTable a (text (tree nodes id)) (slice_index_or kept n [])

-- the number of the node's table, if the node has one or its entry of `found` does: 0 is an empty entry, and else it is one more than the number
abbrev pub number_in : List ℕ → List ℕ → ℕ → Option ℕ
number_in numbers found id = if nat_lt id (length numbers) then Some (slice_index numbers id) else step_of (slice_index_or found (id - length numbers) 0)

-- nodes with numbers have their tables, and the entries of `found` are true of the nodes behind them
pub record AreFound (a : DeterministicAutomaton) (nodes : List Node) (kept : List (List CountRow)) (numbers found : List ℕ) : Type 0 where
  pub distinct : AreKept (states_of a) kept
  pub tables : AreNodeTables a nodes kept numbers
  pub entries : (i n : ℕ) → slice_get found i ≡ Some (suc n) → HasTable a nodes kept (length numbers + i) n
  pub live : length numbers + length found ≤ length nodes

-- the two kept tables can be composed
pub record IsComposable (kept : List (List CountRow)) (j : Job) : Type 0 where
  pub left : j.left < length kept
  pub right : j.right < length kept
  pub states : length (slice_index_or kept j.left []) ≡ length (slice_index_or kept j.right [])

-- the composition of the two kept tables
pub record IsMade (kept : List (List CountRow)) (m : Made) : Type 0 where
  pub composed : IsComposed (slice_index_or kept m.job.left []) (slice_index_or kept m.job.right []) m.table
  pub shape : IsCountTableOf (length m.table) m.table

-- the compositions of these jobs in order
pub record AreMade (kept : List (List CountRow)) (jobs : List Job) (made : List Made) : Type 0 where
  pub in_order : map (λ m. m.job) made ≡ jobs
  pub each : All (IsMade kept) made

-- the node is one of `count` nodes from `known` on, and every composition of the two kept tables is its table
pub record IsJob (a : DeterministicAutomaton) (nodes : List Node) (kept : List (List CountRow)) (known count : ℕ) (j : Job) : Type 0 where
  pub new : known ≤ j.node
  pub live : j.node < known + count
  pub left : j.left < length kept
  pub right : j.right < length kept
  pub table : (t : List CountRow) → IsCountTableOf (states_of a) t → IsComposed (slice_index_or kept j.left []) (slice_index_or kept j.right []) t → IsCountTable a (text (tree nodes j.node)) t

-- what is known of the pair of these children
abbrev pub IsStage : List Entry → List ℕ → List ℕ → ℕ → NodeId → NodeId → Stage → Type 0
IsStage es numbers found node left right (Found n) = (p : ℕ × ℕ) × (number_in numbers found left.index ≡ Some p.0) × (number_in numbers found right.index ≡ Some p.1) × Contains es (p, n)
IsStage es numbers found node left right (Due j) = (j.node ≡ node) × (number_in numbers found left.index ≡ Some j.left) × (number_in numbers found right.index ≡ Some j.right)
IsStage es numbers found node left right Waits = (number_in numbers found left.index ≡ None) ⊎ (number_in numbers found right.index ≡ None)

-- the job was added, or the entries have its two tables
abbrev pub IsPushed : List Entry → List Job → List Job → Job → Type 0
IsPushed es old new j = (new ≡ old ++ j ∷ []) ⊎ ((n : ℕ) × Contains es ((j.left, j.right), n) × (new ≡ old))
