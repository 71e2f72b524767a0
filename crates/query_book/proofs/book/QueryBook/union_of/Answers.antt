use Rattle.span_types.specs.Query.{Union, query_of}
use Rattle.query_book.specs.Book.{queries_of}
use Rattle.query_book.proofs.ByName.{pair-refused}
use Rattle.query_book.proofs.book.QueryBook.union_of.Goals as goal

pub returns-clause-refused : goal.returns-clause-refused
returns-clause-refused c =
    pair-refused c.united.result c.args.self.now.states c.states.result Union (queries_of c.args.self.now) c.args.left.now c.args.right.now (query_of c.in_ok-left.left.now.tree) (query_of c.in_ok-right.right.now.tree) c.states.ensures.states c.in_ok-left.ensures.there c.in_ok-right.ensures.there c.united.ensures.past
