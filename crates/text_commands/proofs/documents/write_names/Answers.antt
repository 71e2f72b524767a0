use Rattle.text_commands.proofs.Names.{arith, live-at, refl, ◌∙◌}
use Rattle.text_commands.proofs.Facts.{last, names_end, names_next, passed, sent_on, stops, waits}
use Rattle.text_commands.proofs.documents.write_names.Goals as goal

pub entry_line-requires : goal.entry_line-requires
entry_line-requires g c = live-at c.args.store.now c.args.docs.now c.loop-index.index (record { name = c.at-root.result.0.now; root = c.at-root.result.1 }) c.requires c.at-root.ensures

pub returns-in_err-line-clause-wrote : goal.returns-in_err-line-clause-wrote
returns-in_err-line-clause-wrote g c = passed c.from_residual.result _ _ _ c.from_residual.ensures.1 (waits c.loop-index.invariant)

pub returns-in_err-offer-clause-wrote : goal.returns-in_err-offer-clause-wrote
returns-in_err-offer-clause-wrote g c =
    let cut = names_next c.args.store.now c.args.docs.now c.loop-index.index (record { name = c.at-root.result.0.now; root = c.at-root.result.1 }) c.at-root.ensures c.loop-index.invariant in
    passed c.from_residual-in_err-offer.result _ _ _ c.from_residual-in_err-offer.ensures.1 (stops _ _ _ cut (c.deref.ensures.value ∙ c.in_ok-line.ensures) c.in_err-offer.ensures.wrote)

pub loop-index-preserved : goal.loop-index-preserved
loop-index-preserved g c =
    let cut = names_next c.args.store.now c.args.docs.now c.loop-index.index (record { name = c.at-root.result.0.now; root = c.at-root.result.1 }) c.at-root.ensures c.loop-index.invariant in
    sent_on _ _ _ cut (c.deref.ensures.value ∙ c.in_ok-line.ensures) c.in_ok-offer.ensures.wrote

pub returns-clause-wrote : goal.returns-clause-wrote
returns-clause-wrote g c =
    let rest = names_end c.args.store.now c.args.docs.now c.loop-index.index (omega (arith, c.loop-index-test.false, c.count-index-end.ensures.count)) c.loop-index.invariant in
    last c.close.result _ _ _ rest refl c.close.ensures.wrote
