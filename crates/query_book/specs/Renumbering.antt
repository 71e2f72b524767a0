-- How a registry changes when its store is compacted to the kept nodes.
use Rattle.std.specs.Prelude.{◌≡◌, ℕ, ◌<◌, ◌≤◌, Bool, List, length, map, Option, Some, None, Contains}
use Rattle.std.specs.List.{AllByRecursion}
use Rattle.slp_model.specs.declared.Node.{Node}
use Rattle.slp_model.specs.Kept.{IsPlanOf}
use Rattle.slp_model.specs.Thin.{rank, IsCompactionOf}
use Rattle.state_tables.specs.Dictionary.{Dictionary, count_of, distinct_of}
use Rattle.query_book.specs.declared.entry.Entry.{Entry}
use Rattle.query_book.specs.declared.entry.TabledQuery.{TabledQuery}
use Rattle.query_book.specs.Named.{Named}
use Rattle.query_book.specs.Book.{Book}
use Rattle.count_tables.specs.Dictionary.{CountDictionary}
use Rattle.count_tables.specs.Dictionary as counts
use Rattle.marker_dfa.specs.Deterministic.{DeterministicAutomaton}
use Rattle.query_book.specs.Counting.{UsesEachCount, UsesItsCounts, counted}
use Rattle.query_book.specs.Kept.{IsSound}
use Rattle.query_book.specs.Serving.{IsServed, Serves}

-- the nodes that the plan covers have their tables, or the first of them do
pub record IsPlanFor (keep : List Bool) (book : Book) : Type 0 where
  pub nodes : List Node
  pub plan : IsPlanOf nodes keep
  pub serves : Serves nodes book

-- for each number of first nodes, how many of them are kept
abbrev pub ranked : List Bool → Named ℕ → Named ℕ
ranked keep ps = map (λ p. (p.0, rank keep p.1)) ps

-- each kept table is that of a node
abbrev pub UsesEachTable : Dictionary → Type 0
UsesEachTable d = (number : ℕ) → number < distinct_of d → Contains d.numbers number

-- in each query, and each kept counting table is that of a node
abbrev pub UseEachTable : Book → Type 0
UseEachTable book = AllByRecursion (λ e. UsesEachTable e.tabled.tables × UsesItsCounts e.tabled) book.entries

-- counting tables are renumbered: they are exactly those of the kept nodes that had some, and no other is kept
pub record RenumbersTables (keep : List Bool) (old new : CountDictionary) : Type 0 where
  pub states : new.states ≡ old.states
  pub count : counts.count_of new ≡ rank keep (counts.count_of old)
  pub used : UsesEachCount new
  pub tables : (a : DeterministicAutomaton) (ns ms : List Node) → IsCompactionOf ns keep ms → counts.AreCountTables a ns old → counts.AreCountTables a ms new

-- if there are some
abbrev pub RenumbersCounts : List Bool → Option CountDictionary → Option CountDictionary → Type 0
RenumbersCounts keep None None = Unit {0}
RenumbersCounts keep None (Some new) = ⊥
RenumbersCounts keep (Some old) None = ⊥
RenumbersCounts keep (Some old) (Some new) = RenumbersTables keep old new

-- the query is unchanged, its tables are exactly those of the kept nodes that had tables, and no other table is kept.
-- The same holds of its counting tables.
pub record Renumbers (keep : List Bool) (old new : TabledQuery) : Type 0 where
  pub query : new.query ≡ old.query
  pub sound : IsSound new
  pub count : count_of new.tables ≡ rank keep (count_of old.tables)
  pub counts : counted new ≡ rank keep (counted old)
  pub used : UsesEachTable new.tables
  pub counts_used : UsesItsCounts new
  pub served : (ns ms : List Node) → IsCompactionOf ns keep ms → IsServed ns old → IsServed ms new

-- the plan covers all nodes with tables
pub record IsWithin (keep : List Bool) (t : TabledQuery) : Type 0 where
  pub tables : count_of t.tables ≤ length keep
  pub counts : counted t ≤ length keep

-- in each query
abbrev pub AreWithin : List Bool → List Entry → Type 0
AreWithin keep es = AllByRecursion (λ e. IsWithin keep e.tabled) es
