use Rattle.session_state.proofs.Facts.{found}
use Rattle.session_state.proofs.session.SessionState.root_of.Goals as goal

pub returns-clause-found : goal.returns-clause-found
returns-clause-found c = (found _ _ _ c.args.name.now c.get.result c.requires.live c.bytes.ensures.value c.get.ensures).0

pub returns-clause-missing : goal.returns-clause-missing
returns-clause-missing c = (found _ _ _ c.args.name.now c.get.result c.requires.live c.bytes.ensures.value c.get.ensures).1
