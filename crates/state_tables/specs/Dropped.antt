-- Which tables are kept when nodes are removed.
use Rattle.std.specs.Prelude.{Bool, List}
use Rattle.distinct_items.specs.Renumbering.{kept_items, used_of}
use Rattle.state_tables.specs.Dictionary.{Dictionary, distinct_of}

-- for each of the kept tables, in order, whether some kept node has it
abbrev pub used_by : Dictionary → List Bool → List Bool
used_by d keep = used_of (kept_items d.numbers keep) (distinct_of d)
