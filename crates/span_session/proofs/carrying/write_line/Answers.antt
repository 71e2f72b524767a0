use Rattle.span_session.proofs.Names.{inl, inr, None, refl, Refused, rules, Some}
use Rattle.span_session.proofs.Facts.{line_ends, no_shelf_wrote, refused_loud, short_of, still_ends, well_formed}
use Rattle.span_session.proofs.carrying.write_line.Goals as goal

pub carry-requires-clause-short : goal.carry-requires-clause-short
carry-requires-clause-short g c = let given = short_of c.args.line.now c.in-Ok.command c.in-Ok.ensures.ok.short c.in-Ok.ensures.ok.form in search rules

pub carry-requires-clause-well_formed : goal.carry-requires-clause-well_formed
carry-requires-clause-well_formed g c = let given = well_formed c.args.line.now c.in-Ok.command c.in-Ok.ensures.ok.form in search rules

pub returns-in-Ok : goal.returns-in-Ok
returns-in-Ok g c =
    let ended = line_ends c.carry.result _ _ (λ told d. (Some c.in-Ok.command, c.in-Ok.ensures.ok, d)) (λ why s. inr (Some c.in-Ok.command, c.in-Ok.ensures.ok, s)) c.carry.ensures.ends in
    record { session = c.carry.ensures.session; same_io = c.carry.ensures.same_io; same_meters = c.carry.ensures.same_meters; quiet = c.carry.ensures.quiet; unsent = c.carry.ensures.unsent; done = ended.0; stopped = ended.1 }

pub returns-in-Err-Syntax : goal.returns-in-Err-Syntax
returns-in-Err-Syntax g c =
    let f = g.F.Shelf in
    let none = c.in-Err-Syntax.ensures.syntax (search (rules, c.in-Err-Syntax.field-0-is)) in
    let ended = line_ends c.send_rejection.result _ _ (λ told d. (None, none, d)) (λ why s. inr (None, none, s))
    (still_ends c.args.context.number c.args.session.now (f.files c.args.io.now.shelf.now) (f.faults c.args.io.now.shelf.now) c.args.meters.now.looks.now c.args.meters.now.pairs.now c.args.meters.now.places.now _ c.requires None _ Refused _ c.send_rejection.result (λ nothing. let bad : ⊥ = cc nothing in bad) (refl, refl, refl) refl refl refl (inl (λ list. list))
    c.send_rejection.ensures.told c.send_rejection.ensures.wrote) in
    record {
      session = c.requires;
      same_io = record { out = refl; shelf = refl };
      same_meters = record { pairs = refl; places = refl; looks = refl };
      quiet = refused_loud _ c.send_rejection.result c.send_rejection.ensures.told;
      unsent = no_shelf_wrote _ c.send_rejection.result _ _ _ c.send_rejection.ensures.wrote;
      done = ended.0;
      stopped = ended.1;
    }

pub returns-in-Err-NoMemory-clause-stopped : goal.returns-in-Err-NoMemory-clause-stopped
returns-in-Err-NoMemory-clause-stopped g c = inl (refl, refl, refl)
