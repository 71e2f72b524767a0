use Rattle.query_commands.proofs.Names.{ap, err_from_is_err_and, inl, plain, plain-grows, ◌∙◌}
use Rattle.query_commands.proofs.Facts.{assigned_after}
use Rattle.query_commands.proofs.replacement.put_replaced.Goals as goal

pub returns-in_err-answer-in-Ok-clause-err : goal.returns-in_err-answer-in-Ok-clause-err
returns-in_err-answer-in-Ok-clause-err g c =
    let p = err_from_is_err_and c.from_residual.result c.from_residual.ensures.1 in
    rw (p.1) (ap (plain c.replaced.new.store) c.in_err-answer-in-Ok.ensures.err ∙ plain-grows _ _ _ _ c.replaced.ensures.grows _ c.requires.live)

pub returns-in-Ok-clause-ok : goal.returns-in-Ok-clause-ok
returns-in-Ok-clause-ok g c =
    let a = c.in_ok-answer-in-Ok in
    let made = c.in-Ok.ensures.text in
    let given = assigned_after _ _ _ _ _ _ a.answer.told a.answer.line.items (plain-grows _ _ _ _ c.replaced.ensures.grows c.args.session.now.docs c.requires.live) made.1 a.ensures.ok in
    inl (made.2, given.0, given.1)
