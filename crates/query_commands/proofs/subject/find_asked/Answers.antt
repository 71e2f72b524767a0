use Rattle.query_commands.proofs.Names.{queries_of}
use Rattle.query_commands.proofs.Facts.{named_by}
use Rattle.query_commands.proofs.subject.find_asked.Goals as goal

pub returns-in-Ok-vars-clause-found : goal.returns-in-Ok-vars-clause-found
returns-in-Ok-vars-clause-found c =
    let q = named_by (queries_of c.args.session.now.book) _ c.args.query.now _ c.bytes.ensures.value c.in-Ok-vars.ensures in
    record { document = c.in-Ok.ensures.found; tree = q.0; registered = q.1; variables = q.2 }
