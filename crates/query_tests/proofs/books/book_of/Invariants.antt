use Rattle.std.proofs.Common.{List}
use Rattle.slp_model.specs.declared.Node.{Node}
use Rattle.query_book.specs.Serving.{Serves}
use Rattle.query_tests.proofs.books.book_of.Given as goal

abbrev pub invariant-loop-name : goal.invariant-loop-name
invariant-loop-name l = (ns : List Node) → Serves ns l.book
