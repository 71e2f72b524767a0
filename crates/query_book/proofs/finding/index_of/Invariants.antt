use Rattle.query_book.proofs.NameIndex.{AreOthers}
use Rattle.query_book.proofs.finding.index_of.Given as goal

-- none of the first values has the name
abbrev pub invariant-loop-index : goal.invariant-loop-index
invariant-loop-index l = AreOthers l.index l.by_name l.name
