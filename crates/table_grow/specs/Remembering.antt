-- Cached compositions: two kept tables by their numbers, and the number of their composition.
use Rattle.std.specs.Prelude.{◌≡◌, ◌<◌, List, Contains}
use Rattle.pair_memo.specs.Entries.{Entry}
use Rattle.state_tables.specs.Table.{compose_of}
use Rattle.state_tables.specs.Dictionary.{Dictionary, distinct_of, kept_of}

-- the kept table of the third number is the composition of the kept tables of the first two
pub record IsTrueEntry (d : Dictionary) (e : Entry) : Type 0 where
  pub left : e.0.0 < distinct_of d
  pub right : e.0.1 < distinct_of d
  pub number : e.1 < distinct_of d
  pub composed : kept_of d e.1 ≡ compose_of (kept_of d e.0.0) (kept_of d e.0.1)

-- every entry is true of these tables
abbrev pub AreTrueEntries : Dictionary → List Entry → Type 0
AreTrueEntries d es = (e : Entry) → Contains es e → IsTrueEntry d e
