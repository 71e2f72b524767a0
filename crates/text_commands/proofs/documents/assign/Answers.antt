use Rattle.text_commands.proofs.Names.{plain-grows}
use Rattle.text_commands.proofs.documents.assign.Goals as goal

pub returns-in_ok-answer-in-Ok-clause-ok : goal.returns-in_ok-answer-in-Ok-clause-ok
returns-in_ok-answer-in-Ok-clause-ok g c =
    let e = c.eval in
    rw (c.in-Ok.ensures.value.1, ← plain-grows c.args.store.now e.new.store c.args.pairs.now e.new.pairs e.ensures.grows c.args.docs.now c.requires) c.in_ok-answer-in-Ok.ensures.ok
