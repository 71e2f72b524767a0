use Rattle.std.proofs.Common.{◌≡◌, ◌+◌, ◌/◌, replicate}
use Rattle.marker_dfa.proofs.StateWords.{members-none}
use Rattle.marker_dfa.proofs.states.StateSet.empty.Goals as goal

pub returns : goal.returns
returns c =
    let zeros : c.in_ok-vec.field-0.items ≡ replicate (c.args.states / 64 + 1) 0 = c.in_ok-vec.ensures.items_if_clones_equal (λ y e. e) in
    rw zeros (members-none c.args.states (c.args.states / 64 + 1))
