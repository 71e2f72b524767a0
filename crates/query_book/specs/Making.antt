-- New entries.
use Rattle.std.specs.Prelude.{◌≡◌, ℕ, List, None}
use Rattle.state_tables.specs.Dictionary.{count_of}
use Rattle.query_book.specs.declared.compiled.Compiled.{Compiled}
use Rattle.query_book.specs.declared.entry.Entry.{Entry}
use Rattle.query_book.specs.Kept.{IsSound}

-- an entry of this query, without tables
pub record IsFresh (name : List ℕ) (query : Compiled) (e : Entry) : Type 0 where
  pub sound : IsSound e.tabled
  pub name_is : e.name ≡ name
  pub query_is : e.tabled.query ≡ query
  pub none : count_of e.tabled.tables ≡ 0
  pub uncounted : e.tabled.counts ≡ None
