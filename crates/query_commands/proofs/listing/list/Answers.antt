use Rattle.query_commands.proofs.Names.{at, inl, inr, refl, state_of, world}
use Rattle.script_syntax.specs.declared.form.Command.TheVariants as form
use Rattle.query_commands.proofs.Facts.{asked_in, growth_stops, list_asks, list_rejected, passed, reply_ends}
use Rattle.query_commands.proofs.listing.list.Goals as goal

pub returns-in_err-grow_for-in-Ok-clause-ends : goal.returns-in_err-grow_for-in-Ok-clause-ends
returns-in_err-grow_for-in-Ok-clause-ends g c = λ files faults pairs.
    let grown = c.grow_for.ensures.grown in
    passed _ _ _ _ c.from_residual.ensures.1 (growth_stops _ _ files faults c.args.looks.now pairs _ c.requires.session grown.grown (list_asks c.args.session.now c.in-Ok.ensures.found files c.args.page.limit grown))

pub ready-requires : goal.ready-requires
ready-requires g c = rw c.bytes.ensures.value c.in_ok-grow_for-in-Ok.ensures.all

pub returns-in-Ok-ready-clause-ends : goal.returns-in-Ok-ready-clause-ends
returns-in-Ok-ready-clause-ends g c = λ files faults pairs.
    let d = c.in-Ok.ensures.found in
    let grown = c.grow_for.ensures.grown in
    let r = c.in-Ok-ready.ensures in
    let l = c.list_page in
    let registered = rw c.bytes.ensures.value at r.query in
    reply_ends _ _ files faults c.args.looks.now pairs _ c.requires.session grown.grown (list_asks c.args.session.now d files c.args.page.limit grown) l.new.looks _ l.result (λ no. no) (λ no. no) (λ e. cc e) (inr l.ensures.want)
    (l.ensures.sends (world (state_of c.args.session.now) files) _ _ pairs (asked_in c.args.session.now c.grow_for.new.book c.args.page.query d grown.grown.queries r.store registered files))

pub returns-in-Err-clause-ends : goal.returns-in-Err-clause-ends
returns-in-Err-clause-ends g c = λ files faults pairs.
    let h = c.args.session.now in
    let page = c.args.page in
    let none = rw (c.grow_for.ensures.grown.grown.queries, c.bytes.ensures.value) at c.in-Err.ensures.missing.none in
    let same = c.grow_for.ensures.missing none in
    let written = rw same.0 at c.write_rejection.ensures in
    rw (same.0, same.1) (written (form.List page.query page.name page.start page.limit) files faults c.args.looks.now pairs c.args.places.now
    (list_rejected h files page.query page.name page.start page.limit _ c.requires.session (inr (_, c.in-Ok.ensures.found.text, none, refl))))

pub returns-in-Err-NoSuchDocument-clause-ends : goal.returns-in-Err-NoSuchDocument-clause-ends
returns-in-Err-NoSuchDocument-clause-ends g c = λ files faults pairs.
    let page = c.args.page in
    c.write_rejection-in-Err-NoSuchDocument.ensures (form.List page.query page.name page.start page.limit) files faults c.args.looks.now pairs c.args.places.now
    (list_rejected _ files page.query page.name page.start page.limit _ c.requires.session (inl (c.in-Err-NoSuchDocument.ensures.missing, refl)))

pub list_page-requires-clause-counts : goal.list_page-requires-clause-counts
list_page-requires-clause-counts g c = λ numbered. rw c.in-Ok-ready.ensures.store (c.in-Ok-ready.ensures.counted _ (rw c.bytes.ensures.value (c.in_ok-grow_for-in-Ok.ensures.counts numbered)))
