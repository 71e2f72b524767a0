-- The queries of the map.
use Rattle.std.specs.Prelude.{◌≡◌, ℕ, ◌≤◌, IfSome}
use Rattle.std.specs.List.{AllByRecursion}
use Rattle.marker_dfa.specs.Deterministic.{states_of}
use Rattle.table_grow.specs.Remembering.{AreTrueEntries}
use Rattle.query_book.specs.declared.entry.TabledQuery.{TabledQuery}
use Rattle.query_book.specs.Compiling.{IsCompiled}
use Rattle.query_book.specs.Named.{Named}

-- the query, its tables and their compositions are consistent, and so are its counting tables, if it has some
pub record IsSound (t : TabledQuery) : Type 0 where
  pub compiled : IsCompiled t.query
  pub states : t.tables.states ≡ states_of t.query.dfa
  pub memory : AreTrueEntries t.tables t.memory
  pub counts : IfSome t.counts (λ d. d.states ≡ states_of t.query.dfa)

-- each query is sound
abbrev pub AreSound : Named TabledQuery → Type 0
AreSound ps = AllByRecursion (λ p. IsSound p.1) ps

-- a registry of these queries, with this maximum number of states of a query's automaton
pub record IsRegistry (most : ℕ) (ps : Named TabledQuery) : Type 0 where
  pub sound : AreSound ps
  pub few : 128 ≤ most
  pub many : most ≤ 1024
