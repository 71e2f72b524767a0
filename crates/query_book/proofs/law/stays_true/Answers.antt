use Rattle.query_book.proofs.Served.{serves-more}
use Rattle.query_book.proofs.law.stays_true.Goals as goal

pub returns : goal.returns
returns c = serves-more
