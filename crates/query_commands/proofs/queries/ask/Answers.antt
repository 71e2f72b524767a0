use Rattle.query_commands.proofs.Names.{ap, at, Book, inl, inr, refl}
use Rattle.query_commands.specs.Judged.{question_of}
use Rattle.query_commands.proofs.Facts.{ask_answers, asked_rejected}
use Rattle.query_commands.proofs.queries.ask.Goals as goal

pub returns-in-Err-NoSuchDocument-clause-done : goal.returns-in-Err-NoSuchDocument-clause-done
returns-in-Err-NoSuchDocument-clause-done g c = λ files faults pairs.
    c.reject-in-Err-NoSuchDocument.ensures.done _ (question_of c.args.question.query c.args.question.name c.args.question.word) files faults c.args.looks.now pairs c.args.places.now
    (asked_rejected _ files _ _ c.args.question.word _ c.requires (inl (c.in-Err-NoSuchDocument.ensures.missing, refl))) refl

pub returns-in-Err : goal.returns-in-Err
returns-in-Err g c =
    let h = c.args.session.now in
    let command = question_of c.args.question.query c.args.question.name c.args.question.word in
    let none = rw (c.grow.ensures.grown.queries, c.bytes.ensures.value) at c.in-Err.ensures.missing.none in
    let same = c.grow.ensures.missing none in
    let session = ap (λ (b : Book). record h { book = b }) same.0 in
    record {
      done = λ files faults pairs. rw same.1 (c.reject.ensures.done h command files faults c.args.looks.now pairs c.args.places.now (asked_rejected h files _ _ c.args.question.word _ c.requires (inr (_, c.in-Ok.ensures.found.text, none, refl))) session);
      stopped = λ files faults pairs. rw same.1 (c.reject.ensures.stopped h command c.requires session files faults c.args.looks.now pairs c.args.places.now);
    }

pub returns-in_ok-answer-in-Ok-ready-clause-done : goal.returns-in_ok-answer-in-Ok-ready-clause-done
returns-in_ok-answer-in-Ok-ready-clause-done g c = λ files faults pairs.
    let r = c.in-Ok-ready.ensures in
    let registered = rw c.bytes.ensures.value at r.query in
    ask_answers c.args.session.now c.grow.new.book c.args.question.query c.in-Ok.ensures.found c.grow.ensures.grown.queries r.store registered c.requires c.grow.ensures.grown c.args.question.word _ files faults _ _ pairs c.ask_query.ensures.cost _ c.in_ok-answer-in-Ok-ready.ensures.ok
