-- The fields of `CountTables` as contracts see them.
use Rattle.count_tables.specs.Dictionary.{CountDictionary, IsCountDictionary}
use Rattle.count_tables.specs.Remembered.{AreTrueEntries}
use Rattle.count_tables.specs.declared.tables.CountTables.TheInside.{Inside}

abbrev pub view_of : Inside → CountDictionary
view_of t = record { states = t.states; kept = t.kept; numbers = t.numbers.items }

pub record AreTables (t : Inside) : Type 0 where
  pub dictionary : IsCountDictionary (view_of t)
  pub entries : AreTrueEntries t.kept t.memo
