use Rattle.session_state.proofs.Names.{ap, AreLive, AreLive-put, plain, plain-put, subst, sym, ◌∙◌}
use Rattle.session_state.proofs.texts.set_document.Goals as goal

pub returns-clause-live : goal.returns-clause-live
returns-clause-live c = subst (AreLive c.args.store.now) (sym c.in_ok-set.ensures.ok) (AreLive-put c.args.store.now c.args.docs.now c.args.name c.args.root c.requires.live c.requires.root)

pub returns-clause-ok : goal.returns-clause-ok
returns-clause-ok c = (c.in_ok-answer.ensures, ap (plain c.args.store.now) c.in_ok-set.ensures.ok ∙ plain-put c.args.store.now c.args.docs.now c.args.name c.args.root)
