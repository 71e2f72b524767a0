use Rattle.text_commands.proofs.Names.{file_command, load_size, plain, plain-grows, state_of, world, ℕ}
use Rattle.text_commands.proofs.Facts.{file_begun, file_refused_paid, file_rejected, grown_answers, grown_stops, load_carries, load_kinds, loaded}
use Rattle.text_commands.proofs.files.load_file.Goals as goal

pub returns-in_err-answer-in-Ok-clause-stopped : goal.returns-in_err-answer-in-Ok-clause-stopped
returns-in_err-answer-in-Ok-clause-stopped g c = λ looks places.
    let h = c.args.session.now in
    let l = c.load_from in
    let a = c.args.loading in
    rw (← c.bytes.ensures) (grown_stops h l.new.store c.set_document.new.docs c.args.number (file_command a.method a.name c.bytes.result.now) _ _ _ _ looks c.args.pairs.now l.new.pairs places c.requires l.ensures.grows l.ensures.files _ c.from_residual.ensures.1
    c.in_err-answer-in-Ok.ensures.err (loaded a.method (world (state_of h) (g.F.Shelf.files c.args.shelf.now)) a.name _ _ looks _ _ c.in-Ok.ensures.ok c.in-Ok.ensures.cost) l.ensures.later)

pub returns-in_ok-answer-in-Ok-clause-done : goal.returns-in_ok-answer-in-Ok-clause-done
returns-in_ok-answer-in-Ok-clause-done g c = λ looks places.
    let h = c.args.session.now in
    let l = c.load_from in
    let a = c.args.loading in
    let e = c.in-Ok.ensures in
    let (isfile, registers, compacts, does, refuses, allows) = load_kinds a.method a.name c.bytes.result.now in
    let sets = rw (plain-grows h.store l.new.store c.args.pairs.now l.new.pairs l.ensures.grows h.docs c.requires.live) at c.in_ok-answer-in-Ok.ensures.ok in
    rw (← c.bytes.ensures) (grown_answers h l.new.store c.set_document.new.docs c.args.number (file_command a.method a.name c.bytes.result.now) _ _ _ _ looks c.args.pairs.now l.new.pairs places c.requires l.ensures.grows l.ensures.files _ c.set_document.ensures.live
    registers compacts (loaded a.method (world (state_of h) (g.F.Shelf.files c.args.shelf.now)) a.name _ _ looks _ _ e.ok e.cost) e.sound (load_carries a.method (state_of h) (plain l.new.store c.set_document.new.docs) _ a.name _ _ _ _ (g.F.Shelf.files c.args.shelf.now) e.ok sets))

pub returns-in-Err : goal.returns-in-Err
returns-in-Err g c =
    let h = c.args.session.now in
    let l = c.load_from in
    let a = c.args.loading in
    let e = c.in-Err.ensures in
    let r = c.rejected_file in
    let files = g.F.Shelf.files c.args.shelf.now in
    let (isfile, registers, compacts, does, refuses, allows) = load_kinds a.method a.name a.file in
    let w = world (state_of h) files in
    let paid = rw c.bytes.ensures at e.paid in
    let ends = λ (looks : ℕ) (places : ℕ). file_rejected h l.new.store c.args.number (file_command a.method a.name a.file) files (g.F.Shelf.files l.new.shelf) (g.F.Shelf.faults c.args.shelf.now) (g.F.Shelf.faults l.new.shelf) looks c.args.pairs.now l.new.pairs places a.file load_size c.in-Err.why r.result
    c.requires l.ensures.grows l.ensures.files l.ensures.later isfile registers compacts (λ why refused. (refuses w why refused, file_refused_paid a.method w a.name a.file why looks c.args.pairs.now l.new.pairs refused paid))
    (file_begun a.method w a.name a.file looks c.args.pairs.now l.new.pairs paid) (rw c.bytes.ensures at e.refused) e.sound e.fault r.ensures.ok r.ensures.fault r.ensures.out_fault in
    record { done = λ looks places. (ends looks places).0; stopped = λ looks places. (ends looks places).1 }
