use Rattle.session_state.proofs.Names.{inr, refl, Refused, Some, state_of, world}
use Rattle.session_state.proofs.Facts.{rejected_replies, still_ends}
use Rattle.session_state.proofs.rejecting.write_rejection.Goals as goal

pub returns : goal.returns
returns g c = λ command files faults looks pairs places is.
    let replies = rejected_replies (world (state_of c.args.session.now) files) command c.args.why.now is.refused in
    still_ends c.args.number c.args.session.now files faults looks pairs places _ is.session (Some command) _ Refused _ c.send_rejection.result replies (c.args.why.now, is.refused, refl, refl) is.free refl refl
    (inr c.send_rejection.ensures.want) c.send_rejection.ensures.told c.send_rejection.ensures.wrote
