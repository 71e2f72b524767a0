use Rattle.text_commands.proofs.Names.{image, plain, plain-grows}
use Rattle.text_commands.proofs.Facts.{opens_refused}
use Rattle.text_commands.proofs.files.open_image.Goals as goal

pub returns-in_ok-answer-in-Err-clause-ok : goal.returns-in_ok-answer-in-Err-clause-ok
returns-in_ok-answer-in-Err-clause-ok g c =
    let a = c.in_ok-answer-in-Err in
    opens_refused (plain c.args.store.now c.args.docs.now) (plain c.read.new.store c.args.docs.now) c.args.number (image c.args.bytes.now).answer c.in-Err.why a.answer.told a.answer.line.items
    (plain-grows c.args.store.now c.read.new.store c.args.pairs.now c.read.new.pairs c.read.ensures.grows c.args.docs.now c.requires) c.in-Err.ensures.read a.ensures.0 a.ensures.1
