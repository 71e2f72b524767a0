use Rattle.std.proofs.Common.{subst}
use Rattle.span_types.specs.Query.{query_of}
use Rattle.query_book.specs.Registering.{IsQueryOf}
use Rattle.query_book.proofs.book.QueryBook.add.Goals as goal

pub returns-clause-ok : goal.returns-clause-ok
returns-clause-ok c = (query_of c.in_ok-query.query.tree, subst (λ most. IsQueryOf most c.args.text.now (query_of c.in_ok-query.query.tree)) c.states.ensures.states c.in_ok-query.ensures.query, c.in_ok-register.ensures.ok)
