use Rattle.marker_nfa.proofs.Following.{all_added}
use Rattle.marker_nfa.proofs.parts.push_joins.Goals as goal

pub returns : goal.returns
returns c = all_added _ _ _ c.in_ok-push_all_hops.ensures _
