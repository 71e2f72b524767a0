use Rattle.marker_nfa.proofs.nfa.Nfa.letters.Goals as goal

pub returns : goal.returns
returns c = rw (← c.self.view_is, c.deref.ensures.value) c.self.invariant.1
