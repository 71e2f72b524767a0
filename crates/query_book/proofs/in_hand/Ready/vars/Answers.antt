use Rattle.query_book.proofs.in_hand.Ready.vars.Goals as goal

pub returns : goal.returns
returns c = rw (← c.self.view_is) c.self.invariant.sound.compiled.names
