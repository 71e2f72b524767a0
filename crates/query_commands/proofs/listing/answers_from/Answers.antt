use Rattle.query_commands.proofs.Facts.{begins_after, begins_at, no_value}
use Rattle.query_commands.proofs.listing.answers_from.Goals as goal

pub returns-in_err-answers-in-Ok : goal.returns-in_err-answers-in-Ok
returns-in_err-answers-in-Ok g c =
    let r = c.from_residual-in_err-answers-in-Ok in
    begins_after _ _ _ c.in-After.is c.vars.ensures c.in-Ok.ensures.ok c.seek.ensures.list (no_value r.result _ _ r.ensures.1) c.seek.ensures.cost

pub returns-in_err-answers-in-At : goal.returns-in_err-answers-in-At
returns-in_err-answers-in-At g c =
    let r = c.from_residual-in_err-answers-in-At in
    let l = c.start_at.ensures.list in
    begins_at _ l.all c.in-At.is l.answers (no_value r.result _ _ r.ensures.1) c.start_at.ensures.cost

pub returns-in_ok-answers-in-At : goal.returns-in_ok-answers-in-At
returns-in_ok-answers-in-At g c =
    let l = c.in_ok-answers-in-At.ensures.listing in
    begins_at _ l.all c.in-At.is l.answers (record { cursor = l.cursor; iterator = l.iterator; after = l.after }) c.start_at.ensures.cost
