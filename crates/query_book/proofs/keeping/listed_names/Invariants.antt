use Rattle.std.proofs.Common.{length}
use Rattle.query_book.proofs.KeptNames.{IsReadTo}
use Rattle.query_book.proofs.keeping.listed_names.Given as goal

abbrev pub invariant-loop-name : goal.invariant-loop-name
invariant-loop-name l = IsReadTo l.vars l.keep l.names l.rest

abbrev pub decreases-loop-name : goal.decreases-loop-name
decreases-loop-name l = length l.rest
