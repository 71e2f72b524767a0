use Rattle.query_commands.proofs.Names.{doc_line, flat_map, last_line, page_text, refl, tuple_line, ◌∙◌}
use Rattle.query_commands.proofs.Facts.{last, passed, sent_on, starts, stops}
use Rattle.query_commands.proofs.all_listing.write_document.Goals as goal

pub returns-in_err-offer : goal.returns-in_err-offer
returns-in_err-offer g c =
    passed _ _ _ _ c.from_residual-in_err-offer.ensures.1 (stops (doc_line c.args.name.now) _ _ (starts _ _) (c.deref.ensures.value ∙ c.in_ok-line.ensures) c.in_err-offer.ensures.wrote)

pub returns-in_err-write_tuples : goal.returns-in_err-write_tuples
returns-in_err-write_tuples g c =
    let rest = sent_on (doc_line c.args.name.now) (page_text c.args.vars.now c.args.tuples.now c.args.more) _ (starts _ _) (c.deref.ensures.value ∙ c.in_ok-line.ensures) c.in_ok-offer.ensures.wrote in
    passed _ _ _ _ c.from_residual-in_err-write_tuples.ensures.1 (stops (flat_map (tuple_line c.args.vars.now) c.args.tuples.now) (last_line c.args.more) _ rest refl c.in_err-write_tuples.ensures)

pub returns : goal.returns
returns g c =
    let rest = sent_on (doc_line c.args.name.now) (page_text c.args.vars.now c.args.tuples.now c.args.more) _ (starts _ _) (c.deref.ensures.value ∙ c.in_ok-line.ensures) c.in_ok-offer.ensures.wrote in
    last c.offer-2.result _ (last_line c.args.more) _ (sent_on (flat_map (tuple_line c.args.vars.now) c.args.tuples.now) (last_line c.args.more) _ rest refl c.in_ok-write_tuples.ensures) c.last_of.ensures c.offer-2.ensures.wrote
