use Rattle.session_state.proofs.Names.{text_of}
use Rattle.session_state.proofs.Facts.{head_of-text}
use Rattle.session_state.proofs.texts.head_of.Goals as goal

pub returns : goal.returns
returns c = head_of-text (text_of c.args.store.now c.args.root) c.in_ok-head.head.items c.root_len.result c.min-end.result c.root_len.ensures.len c.min-end.ensures c.in_ok-head.ensures
