use Rattle.std.proofs.Common.{[]}
use Rattle.doc_book.specs.Docs.{put}
use Rattle.query_tests.proofs.Documents.{live-put}
use Rattle.query_tests.proofs.listings.two_documents.Goals as goal

pub returns : goal.returns
returns c =
    rw (c.in_ok-set-2.ensures.ok, c.in_ok-set.ensures.ok, c.new-docs.ensures)
    (live-put c.args.store.now (put [] c.in_ok-d.d c.args.first) c.in_ok-e.e c.args.second (live-put c.args.store.now [] c.in_ok-d.d c.args.first tt c.requires.first) c.requires.second)
