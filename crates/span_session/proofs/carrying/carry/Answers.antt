use Rattle.span_session.proofs.Names.{IsConsistent, IsWellFormed, None, rules, subst, sym}
use Rattle.script_syntax.specs.declared.form.Command.TheVariants as form
use Rattle.span_session.proofs.Facts.{is_answering, quiet_done, quiet_never, shelf_never}
use Rattle.span_session.proofs.carrying.carry.Goals as goal

pub returns-in-Nothing-clause-ends : goal.returns-in-Nothing-clause-ends
returns-in-Nothing-clause-ends g c = rw (c.in-Nothing.is) (quiet_done _ c.args.session.now _ _ _ _ _ _ c.requires.session)

pub reply-requires-clause-answering : goal.reply-requires-clause-answering
reply-requires-clause-answering g c = let answering = is_answering c.args.command c.in_default.not-Nothing c.in_default.not-Names c.in_default.not-List c.in_default.not-ListAll in search rules

pub list-requires-clause-start : goal.list-requires-clause-start
list-requires-clause-start g c = let start = subst IsWellFormed c.in-List.is c.requires.well_formed in search rules

pub list_all-requires-clause-some : goal.list_all-requires-clause-some
list_all-requires-clause-some g c = let some = (subst IsWellFormed c.in-ListAll.is c.requires.well_formed).0 in search rules

pub list_all-requires-clause-few : goal.list_all-requires-clause-few
list_all-requires-clause-few g c = let few = (subst IsWellFormed c.in-ListAll.is c.requires.well_formed).1 in search rules

pub returns-in-Names-clause-quiet : goal.returns-in-Names-clause-quiet
returns-in-Names-clause-quiet g c = quiet_never _ 0 form.Names _ _ _ _ c.names.result (λ no. let bad : ⊥ = cc no in bad) (c.names.ensures.ends 0 None 0 0 0 0)

pub returns-in-Names-clause-unsent : goal.returns-in-Names-clause-unsent
returns-in-Names-clause-unsent g c = shelf_never _ 0 form.Names _ _ _ _ c.names.result (λ no. no) (c.names.ensures.ends 0 None 0 0 0 0)

pub returns-in-List-clause-quiet : goal.returns-in-List-clause-quiet
returns-in-List-clause-quiet g c =
    let l = c.in-List in
    quiet_never _ c.args.context.number (form.List l.query l.name l.start l.limit) _ _ _ _ c.list.result (λ no. let bad : ⊥ = cc no in bad) (c.list.ensures.ends None 0 0)

pub returns-in-List-clause-unsent : goal.returns-in-List-clause-unsent
returns-in-List-clause-unsent g c =
    let l = c.in-List in
    shelf_never _ c.args.context.number (form.List l.query l.name l.start l.limit) _ _ _ _ c.list.result (λ no. no) (c.list.ensures.ends None 0 0)

pub returns-in-ListAll-clause-quiet : goal.returns-in-ListAll-clause-quiet
returns-in-ListAll-clause-quiet g c =
    quiet_never _ c.args.context.number (form.ListAll c.in-ListAll.query c.in-ListAll.limit) _ _ _ _ c.list_all.result (λ no. let bad : ⊥ = cc no in bad) (c.list_all.ensures.ends None 0 0 0)

pub returns-in-ListAll-clause-unsent : goal.returns-in-ListAll-clause-unsent
returns-in-ListAll-clause-unsent g c =
    shelf_never _ c.args.context.number (form.ListAll c.in-ListAll.query c.in-ListAll.limit) _ _ _ _ c.list_all.result (λ no. no) (c.list_all.ensures.ends None 0 0 0)

pub names-requires : goal.names-requires
names-requires g c = subst IsConsistent (sym c.settle.ensures) c.requires.session

pub returns-in-Names-clause-ends : goal.returns-in-Names-clause-ends
returns-in-Names-clause-ends g c = rw (c.in-Names.is, ← c.settle.ensures) (c.names.ensures.ends c.args.context.number _ _ _ _ _)

pub list_all-requires-clause-session : goal.list_all-requires-clause-session
list_all-requires-clause-session g c = let session = subst IsConsistent (sym c.settle-in-ListAll.ensures) c.requires.session in search rules

pub returns-in-ListAll-clause-ends : goal.returns-in-ListAll-clause-ends
returns-in-ListAll-clause-ends g c = rw (c.in-ListAll.is, ← c.settle-in-ListAll.ensures) (c.list_all.ensures.ends _ _ _ _)
