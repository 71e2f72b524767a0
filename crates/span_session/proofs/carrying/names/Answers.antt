use Rattle.span_session.proofs.Names.{Accepted, inl, inr, names_text, plain, refl, Some}
use Rattle.script_syntax.specs.declared.form.Command.TheVariants as form
use Rattle.span_session.proofs.Facts.{still_ends}
use Rattle.span_session.proofs.carrying.names.Goals as goal

pub returns-clause-ends : goal.returns-clause-ends
returns-clause-ends g c = λ number files faults looks pairs places.
    let h = c.args.session.now in
    still_ends number h files faults looks pairs places _ c.requires (Some form.Names) _ Accepted (names_text (plain h.store h.docs)) c.write_names.result (λ nothing. let bad : ⊥ = cc nothing in bad)
    (refl, refl) refl (inr ((λ no. no), refl)) (inr ((λ no. no), refl)) (inl (λ no. no)) c.write_names.ensures.told c.write_names.ensures.wrote
