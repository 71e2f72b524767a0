use Rattle.session_state.proofs.session.SessionState.settle.Goals as goal

pub returns : goal.returns
returns c = λ i. record c.args.self.now { docs = c.settle.ensures i; versions = c.settle-2.ensures i }
