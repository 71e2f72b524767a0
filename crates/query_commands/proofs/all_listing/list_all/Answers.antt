use Rattle.query_commands.proofs.Names.{ap, at, inl, List, Node, not_asked, plain, refl, state_of, sym, world}
use Rattle.script_syntax.specs.declared.form.Command.TheVariants as form
use Rattle.query_commands.proofs.Facts.{growth_stops, passed, reply_ends}
use Rattle.query_commands.proofs.all_listing.list_all.Goals as goal

pub returns-in_err-grow-clause-ends : goal.returns-in_err-grow-clause-ends
returns-in_err-grow-clause-ends g c = λ files faults looks pairs.
    passed _ _ _ _ c.from_residual.ensures.1 (growth_stops _ (form.ListAll c.args.query c.args.limit) files faults looks pairs _ c.requires.session c.grow.ensures.grown not_asked)

pub ready-requires : goal.ready-requires
ready-requires g c = rw c.bytes.ensures.value c.in_ok-grow.ensures.all

pub returns-in-Ok-clause-ends : goal.returns-in-Ok-clause-ends
returns-in-Ok-clause-ends g c = λ files faults looks pairs.
    let h = c.args.session.now in
    let r = c.in-Ok.ensures in
    let registered = rw (c.bytes.ensures.value, c.grow.ensures.grown.queries) at r.query in
    reply_ends _ _ files faults looks pairs _ c.requires.session c.grow.ensures.grown not_asked looks _ c.list_query.result (λ no. no) (λ no. no) (λ e. cc e) (inl (λ no. no))
    (c.list_query.ensures (world (state_of h) files) c.args.context.number looks pairs c.args.query registered (ap (λ (ns : List Node). plain ns h.docs) (sym r.store)))

pub returns-in-Err-clause-ends : goal.returns-in-Err-clause-ends
returns-in-Err-clause-ends g c = λ files faults looks pairs.
    let none = rw (c.grow.ensures.grown.queries, c.bytes.ensures.value) at c.in-Err.ensures.missing.none in
    let same = c.grow.ensures.missing none in
    let written = rw same.0 at c.write_rejection.ensures in
    rw (same.0, same.1) (written (form.ListAll c.args.query c.args.limit) files faults looks pairs c.args.places.now (record { session = c.requires.session; refused = (none, refl); free = refl }))
