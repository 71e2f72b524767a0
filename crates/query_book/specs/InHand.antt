-- A query in hand, with the tables of a store's nodes.
use Rattle.std.specs.Prelude.{◌≡◌, ◌↔◌, List, length, Option, IfSome, ℕ, Some}
use Rattle.span_types.specs.declared.query.QueryTree.{QueryTree}
use Rattle.span_types.specs.Query.{Query}
use Rattle.span_types.specs.Rel.{IsAnswersOf, names_of}
use Rattle.slp_model.specs.declared.Node.{Node}
use Rattle.slp_model.specs.declared.NodeId.{NodeId}
use Rattle.slp_model.specs.Nodes as store
use Rattle.marker_dfa.specs.Deterministic.{DeterministicAutomaton}
use Rattle.state_tables.specs.Dictionary.{AreTables, count_of}
use Rattle.span_enum.specs.Members.{Tuple, AreAnswersOf}
use Rattle.query_book.specs.declared.entry.TabledQuery.{TabledQuery}
use Rattle.query_book.specs.Counting.{AreFirstCounts, counts_in}
use Rattle.query_book.specs.Kept.{IsSound}

-- what contracts see of a `Ready`: the query, its automaton, the nodes of the store, and the number of nodes with
-- counting tables, if the query has counting tables
pub record ReadyQuery : Type 0 where
  pub tree : QueryTree
  pub automaton : DeterministicAutomaton
  pub nodes : List Node
  pub counted : Option ℕ

-- each of the nodes has its table in the query, whose counting tables, if it has some, are those of first nodes
pub record HasAllTables (ns : List Node) (t : TabledQuery) : Type 0 where
  pub sound : IsSound t
  pub nodes : store.IsSound ns
  pub tables : AreTables t.query.dfa ns t.tables
  pub all : count_of t.tables ≡ length ns
  pub counts : IfSome t.counts (AreFirstCounts t.query.dfa ns)

-- each of the nodes has its counting table in the query
pub record HasAllCounts (ns : List Node) (t : TabledQuery) : Type 0 where
  pub sound : IsSound t
  pub counts : IfSome t.counts (AreFirstCounts t.query.dfa ns)
  pub all : counts_in t ≡ Some (length ns)

-- on each text of the nodes the automaton's answers are the query's, which form a list
pub record HasAnswersIn (ns : List Node) (a : DeterministicAutomaton) (q : Query) : Type 0 where
  pub variables : a.variables ≡ length (names_of q)
  pub same : (root : Option NodeId) (ts : List Tuple) → store.IsLive ns root → AreAnswersOf a (store.text_of ns root) ts ↔ IsAnswersOf q (store.text_of ns root) ts
  pub list : (root : Option NodeId) → store.IsLive ns root → (ts : List Tuple) × IsAnswersOf q (store.text_of ns root) ts
