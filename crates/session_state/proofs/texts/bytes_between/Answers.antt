use Rattle.session_state.proofs.Names.{arith}
use Rattle.session_state.proofs.Facts.{length-text_of}
use Rattle.session_state.proofs.texts.bytes_between.Goals as goal

pub new-requires-clause-within : goal.new-requires-clause-within
new-requires-clause-within c = omega (arith, c.requires.last, length-text_of c.args.store.now c.args.root)
