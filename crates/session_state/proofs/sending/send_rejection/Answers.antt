use Rattle.session_state.proofs.Names.{IfErr-weaker, inl, inr, Keeps-refl}
use Rattle.session_state.proofs.Facts.{passed, starts, waits}
use Rattle.session_state.proofs.sending.send_rejection.Goals as goal

pub returns-in_err-answer-clause-wrote : goal.returns-in_err-answer-clause-wrote
returns-in_err-answer-clause-wrote g c = passed c.from_residual.result _ _ _ c.from_residual.ensures.1 (waits (starts _ _))

pub returns-in_err-answer-clause-want : goal.returns-in_err-answer-clause-want
returns-in_err-answer-clause-want g c = passed c.from_residual.result _ _ _ c.from_residual.ensures.1 (λ _. inr (Keeps-refl _))

pub returns-clause-want : goal.returns-clause-want
returns-clause-want g c = IfErr-weaker c.send.result _ _ (λ why has_increased is. inl (has_increased is)) c.send.ensures.want
