use Rattle.query_commands.proofs.Names.{ap, at, Book, inl, inr, refl}
use Rattle.script_syntax.specs.declared.form.Command.TheVariants as form
use Rattle.query_commands.proofs.Facts.{count_answers}
use Rattle.query_commands.proofs.counting.count.Goals as goal

pub returns-in-Err-NoSuchDocument-clause-done : goal.returns-in-Err-NoSuchDocument-clause-done
returns-in-Err-NoSuchDocument-clause-done g c = λ files faults looks pairs.
    c.reject-in-Err-NoSuchDocument.ensures.done _ (form.Count c.args.query c.args.name) files faults looks pairs c.args.places.now (record { session = c.requires; refused = inl (inl (c.in-Err-NoSuchDocument.ensures.missing, refl)); free = refl }) refl

pub returns-in-Err : goal.returns-in-Err
returns-in-Err g c =
    let h = c.args.session.now in
    let command = form.Count c.args.query c.args.name in
    let none = rw (c.grow_counts.ensures.grown.queries, c.bytes.ensures.value) at c.in-Err.ensures.missing.none in
    let same = c.grow_counts.ensures.missing none in
    let session = ap (λ (b : Book). record h { book = b }) same.0 in
    record {
      done = λ files faults looks pairs. rw same.1 (c.reject.ensures.done h command files faults looks pairs c.args.places.now (record { session = c.requires; refused = inl (inr (_, c.in-Ok.ensures.found.text, none, refl)); free = refl }) session);
      stopped = λ files faults looks pairs. rw same.1 (c.reject.ensures.stopped h command c.requires session files faults looks pairs c.args.places.now);
    }

pub returns-in_ok-answer-in-Ok-count-clause-done : goal.returns-in_ok-answer-in-Ok-count-clause-done
returns-in_ok-answer-in-Ok-count-clause-done g c = λ files faults looks pairs.
    count_answers c.requires c.in-Ok.ensures.found c.grow_counts.ensures.grown _ files faults looks pairs _ _ _ c.bytes.ensures.value c.in-Ok-count.ensures.number c.in_ok-answer-in-Ok-count.ensures
