use Rattle.slp_model.proofs.JoinLemmas.{join-joined}
use Rattle.slp_model.proofs.law.joins.Goals as goal

pub returns : goal.returns
returns c = join-joined
