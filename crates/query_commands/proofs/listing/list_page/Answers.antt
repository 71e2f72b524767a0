use Rattle.query_commands.proofs.Names.{at, Err, refl}
use Rattle.span_language.specs.declared.told.Stop.TheVariants as stop
use Rattle.query_commands.proofs.Facts.{over_count, sends_none, sends_page, sends_refused, starts, waits}
use Rattle.query_commands.proofs.listing.list_page.Goals as goal

pub write_page-requires : goal.write_page-requires
write_page-requires g c = over_count _ _ _ _ _ _ _ (rw c.in-Ok-Ok.field-0-is at c.in-Ok-Ok.ensures) c.vars.ensures

pub returns-in-Ok-Ok-clause-sends : goal.returns-in-Ok-Ok-clause-sends
returns-in-Ok-Ok-clause-sends g c = λ w query name pairs asked.
    sends_page asked _ c.args.number c.args.page.now.start c.args.page.now.limit _ _ _ pairs c.write_page.result c.in-Ok-Ok.answers c.vars.result.now (rw c.in-Ok-Ok.field-0-is at c.in-Ok-Ok.ensures) c.vars.ensures c.write_page.ensures.page c.write_page.ensures.told

pub returns-in-Ok-Err-clause-sends : goal.returns-in-Ok-Err-clause-sends
returns-in-Ok-Err-clause-sends g c = λ w query name pairs asked.
    sends_refused asked _ c.args.number c.args.page.now.start c.args.page.now.limit _ _ _ pairs c.send_rejection.result c.in-Ok-Err.why refl (rw c.in-Ok-Err.field-0-is at c.in-Ok-Err.ensures) c.send_rejection.ensures.wrote c.send_rejection.ensures.told

pub returns-in-Err-clause-sends : goal.returns-in-Err-clause-sends
returns-in-Err-clause-sends g c = λ w query name pairs asked.
    sends_none asked _ c.args.number c.args.page.now.start c.args.page.now.limit _ _ _ pairs (Err stop.NoMemory) _ refl c.in-Err.ensures (λ reply. waits (starts _ reply)) tt
