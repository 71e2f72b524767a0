use Rattle.session_state.proofs.Facts.{rejected_here, stays_freely}
use Rattle.session_state.proofs.rejecting.reject.Goals as goal

pub returns-in_err-answer-clause-stopped : goal.returns-in_err-answer-clause-stopped
returns-in_err-answer-clause-stopped c = λ old command session same. rw same (stays_freely old c.args.number command c.from_residual.result session c.from_residual.ensures.1)

pub returns-clause-done : goal.returns-clause-done
returns-clause-done c = λ old command files faults looks pairs places is same.
    let a = c.in_ok-answer in
    rw same (rejected_here old c.args.number command c.args.why.now a.answer files faults looks pairs places is a.ensures.0 a.ensures.1)
