use Rattle.std.proofs.Common.{sym, subst}
use Rattle.query_book.specs.Serving.{Serves}
use Rattle.query_book.proofs.Served.{serves-more}
use Rattle.query_tests.proofs.numbers.number_on.Goals as goal

pub grow_all-requires-clause-serves : goal.grow_all-requires-clause-serves
grow_all-requires-clause-serves g c κs within =
    let grows = c.in_ok-root.ensures.grows in
    subst (λ ns. Serves ns c.args.book.now) (sym grows.added) (serves-more c.args.store.now grows.more c.args.book.now c.requires.serves)
