use Rattle.query_commands.proofs.Names.{ap, at, Book, length, never, queries_of, refl, state_of, tables-within, tables_of, ◌∙◌}
use Rattle.script_syntax.specs.declared.form.Command.TheVariants as form
use Rattle.query_commands.proofs.Facts.{booked_answers, take_placed, unquery_carries}
use Rattle.query_commands.proofs.queries.unquery.Goals as goal

pub returns-in-Ok-clause-done : goal.returns-in-Ok-clause-done
returns-in-Ok-clause-done c = λ files faults looks pairs places.
    let h = c.args.session.now in
    let r = c.remove.ensures in
    let taken = take_placed (length h.store) places (tables_of h.book) (tables_of c.remove.new.self) c.args.name (rw c.bytes.ensures.value at r.covered) (rw c.bytes.ensures.value at r.counted) (tables-within h.store h.book c.requires.serves) in
    booked_answers h c.remove.new.self c.args.number (form.Unquery c.args.name) files faults looks pairs places 0 c.requires (r.serves h.store c.requires.serves) taken c.accepted.result r.states refl (never _ (λ no. no) _) (never _ (λ no. no) _)
    (unquery_carries (state_of h) (queries_of c.remove.new.self) c.args.number c.args.name c.accepted.result.told c.accepted.result.line.items files (rw c.bytes.ensures.value at c.in-Ok.ensures.ok) (rw c.bytes.ensures.value at r.rest)
    c.accepted.ensures.0 (ap (λ v. v.items) c.accepted.ensures.1 ∙ c.in_ok-line.ensures))

pub returns-in-Err : goal.returns-in-Err
returns-in-Err c =
    let same = ap (λ (b : Book). record c.args.session.now { book = b }) c.in-Err.ensures.err in
    record {
      done = λ files faults looks pairs places. c.reject.ensures.done _ (form.Unquery c.args.name) files faults looks pairs places (record { session = c.requires; refused = (rw c.bytes.ensures.value at c.in-Err.ensures.missing.none, refl); free = refl }) same;
      stopped = c.reject.ensures.stopped _ (form.Unquery c.args.name) c.requires same;
    }
