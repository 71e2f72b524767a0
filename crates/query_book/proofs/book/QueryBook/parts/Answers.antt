use Rattle.query_book.proofs.Covered.{covers-query}
use Rattle.query_book.proofs.book.QueryBook.parts.Goals as goal

pub ready-requires : goal.ready-requires
ready-requires c = covers-query c.args.store.now c.args.self.now c.args.name.now c.requires
