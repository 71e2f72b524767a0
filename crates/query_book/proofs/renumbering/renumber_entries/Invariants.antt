use Rattle.query_book.specs.Growing.{ChangesFirst}
use Rattle.query_book.specs.Renumbering.{Renumbers}
use Rattle.query_book.proofs.renumbering.renumber_entries.Given as goal

-- the first queries were renumbered
abbrev pub invariant-loop-index : goal.invariant-loop-index
invariant-loop-index l = ChangesFirst (Renumbers l.moves) l.index l.initial.by_name l.by_name
