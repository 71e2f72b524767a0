use Rattle.span_session.proofs.Names.{at, rules}
use Rattle.span_session.proofs.Facts.{tables-within}
use Rattle.span_session.proofs.session.Session.line.Goals as goal

pub returns-clause-done : goal.returns-clause-done
returns-clause-done g c =
    let told = rw c.self.view_is at c.carry_line-told.ensures.done in search rules

pub returns-clause-stopped : goal.returns-clause-stopped
returns-clause-stopped g c =
    let told = rw c.self.view_is at c.carry_line-told.ensures.stopped in search rules

pub returns-clause-model : goal.returns-clause-model
returns-clause-model g c =
    let within = tables-within c.carry_line-told.new.session.store c.carry_line-told.new.session.book c.carry_line-told.ensures.session.serves in
    record { few = c.count.ensures.few; within = within.covered; counts_within = within.counted }
