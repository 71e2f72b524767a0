use Rattle.text_commands.proofs.Names.{inl, no_steps, none_paid, not_begun, open_size, plain, refl, state_of, world, ℕ}
use Rattle.script_syntax.specs.declared.form.Command.TheVariants as form
use Rattle.text_commands.proofs.Facts.{file_rejected, grown_answers, grown_stops, none_grows, open_carries, open_paid}
use Rattle.text_commands.proofs.files.open_file.Goals as goal

pub returns-in_err-answer-in-Ok-clause-stopped : goal.returns-in_err-answer-in-Ok-clause-stopped
returns-in_err-answer-in-Ok-clause-stopped g c = λ looks places.
    let h = c.args.session.now in
    let o = c.open_image in
    rw (← c.bytes.ensures) (grown_stops h o.new.store o.new.docs c.args.number (form.OpenFile c.bytes.result.now) _ _ _ _ looks c.args.pairs.now o.new.pairs places c.requires o.ensures.grows c.read_file.ensures.files _ c.from_residual.ensures.1 c.in_err-answer-in-Ok.ensures.err
    (open_paid (world (state_of h) (g.F.Shelf.files c.args.shelf.now)) _ _ looks _ _ (rw (← c.deref.ensures.value) at c.in-Ok.ensures.ok) o.ensures.cost) c.read_file.ensures.later)

pub returns-in_ok-answer-in-Ok-clause-done : goal.returns-in_ok-answer-in-Ok-clause-done
returns-in_ok-answer-in-Ok-clause-done g c = λ looks places.
    let h = c.args.session.now in
    let o = c.open_image in
    let a = c.in_ok-answer-in-Ok in
    let there = rw (← c.deref.ensures.value) at c.in-Ok.ensures.ok in
    rw (← c.bytes.ensures) (grown_answers h o.new.store o.new.docs c.args.number (form.OpenFile c.bytes.result.now) _ _ _ _ looks c.args.pairs.now o.new.pairs places c.requires o.ensures.grows c.read_file.ensures.files _ a.ensures.live (λ no. no) (λ no. no)
    (open_paid (world (state_of h) (g.F.Shelf.files c.args.shelf.now)) _ _ looks _ _ there o.ensures.cost) c.in-Ok.ensures.sound (open_carries (state_of h) (plain o.new.store o.new.docs) _ _ _ _ _ _ (g.F.Shelf.files c.args.shelf.now) there refl a.ensures.ok))

pub returns-in-Err : goal.returns-in-Err
returns-in-Err g c =
    let h = c.args.session.now in
    let e = c.in-Err.ensures in
    let r = c.rejected_file in
    let read = c.read_file in
    let p = c.args.pairs.now in
    let ends = λ (looks : ℕ) (places : ℕ). file_rejected h h.store c.args.number (form.OpenFile c.args.file) (g.F.Shelf.files c.args.shelf.now) (g.F.Shelf.files read.new.shelf) (g.F.Shelf.faults c.args.shelf.now) (g.F.Shelf.faults read.new.shelf) looks p p places c.args.file open_size c.in-Err.why r.result
    c.requires (none_grows h.store p) read.ensures.files read.ensures.later tt (λ no. no) (λ no. no) (λ why refused. (inl refused, (no_steps, inl (why, refused, refl), none_paid looks p p refl)))
    (not_begun (world (state_of h) (g.F.Shelf.files c.args.shelf.now)) (form.OpenFile c.args.file) looks p) (rw c.bytes.ensures at e.refused) e.sound e.fault r.ensures.ok r.ensures.fault r.ensures.out_fault in
    record { done = λ looks places. (ends looks places).0; stopped = λ looks places. (ends looks places).1 }
