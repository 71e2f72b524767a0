use Rattle.span_types.specs.Query.{query_of}
use Rattle.query_book.specs.Book.{queries_of}
use Rattle.query_book.proofs.ByName.{ok-both, projection-made, projection-refused}
use Rattle.query_book.proofs.book.QueryBook.projection_of.Goals as goal

pub returns-clause-tree : goal.returns-clause-tree
returns-clause-tree c =
    ok-both c.projected.result _ _ _
    (λ x is accepted. projection-made c.args.self.now.states c.states.result (queries_of c.args.self.now) c.args.source.now c.args.keep.now (query_of c.in_ok-source.source.now.tree) (query_of x.tree) c.states.ensures.states c.in_ok-source.ensures.there is accepted)
    c.projected.ensures.tree c.projected.ensures.accepted

pub returns-clause-refused : goal.returns-clause-refused
returns-clause-refused c =
    projection-refused c.projected.result c.args.self.now.states c.states.result (queries_of c.args.self.now) c.args.source.now c.args.keep.now (query_of c.in_ok-source.source.now.tree) c.states.ensures.states c.in_ok-source.ensures.there c.projected.ensures.past
