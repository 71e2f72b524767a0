use Rattle.slp_model.proofs.JoinLemmas.{join-near, join-low, join-high}
use Rattle.slp_model.proofs.law.join_cases.Goals as goal

pub returns : goal.returns
returns c = record { near = λ a b h. join-near a b h.0 h.1; left = join-low; right = join-high }
