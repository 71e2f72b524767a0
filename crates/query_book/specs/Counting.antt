-- The counting tables of a query, if it has some.
use Rattle.std.specs.Prelude.{ℕ, ◌<◌, ◌≤◌, List, length, Option, IfSome, unwrap_or, Contains}
use Rattle.std.specs.Option.{option_map}
use Rattle.slp_model.specs.declared.Node.{Node}
use Rattle.marker_dfa.specs.Deterministic.{DeterministicAutomaton}
use Rattle.count_tables.specs.Dictionary.{AreCountTables, CountDictionary, count_of, distinct_of}
use Rattle.query_book.specs.declared.entry.TabledQuery.{TabledQuery}

-- the number of nodes with counting tables, if the query has counting tables
abbrev pub counts_in : TabledQuery → Option ℕ
counts_in t = option_map count_of t.counts

-- the number of nodes with counting tables
abbrev pub counted : TabledQuery → ℕ
counted t = unwrap_or (counts_in t) 0

-- counting tables of the automaton for the first nodes of the list
pub record AreFirstCounts (a : DeterministicAutomaton) (ns : List Node) (d : CountDictionary) : Type 0 where
  pub covered : count_of d ≤ length ns
  pub tables : AreCountTables a ns d

-- each kept counting table is that of a node
abbrev pub UsesEachCount : CountDictionary → Type 0
UsesEachCount d = (number : ℕ) → number < distinct_of d → Contains d.numbers number

-- in a query
abbrev pub UsesItsCounts : TabledQuery → Type 0
UsesItsCounts t = IfSome t.counts UsesEachCount
