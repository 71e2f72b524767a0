use Rattle.query_commands.proofs.Names.{ap, arith, Book, Err, inl, inr, length, names_of, refl, refusal_text, state_of, world, ◌∙◌, ◌≡◌}
use Rattle.report_text.specs.declared.refusal.Refusal.TheVariants.{NoSuchQuery, NotOneVariable}
use Rattle.span_language.specs.Step.{IsUnreplaced}
use Rattle.span_types.specs.Query.{query_of}
use Rattle.span_language.specs.declared.told.Stop.TheVariants as stop
use Rattle.script_syntax.specs.declared.form.Command.TheVariants as form
use Rattle.query_commands.proofs.Facts.{choose_stopped, many_answers, replaced_answers, unchosen_answers}
use Rattle.query_commands.proofs.replacement.replace.Goals as goal

pub returns-in_default-clause-done : goal.returns-in_default-clause-done
returns-in_default-clause-done g c = λ files faults.
    let h = c.args.session.now in
    let a = c.args.asked in
    let s = c.in-Ok.ensures.ok in
    let none = rw (c.grow.ensures.grown.queries, c.bytes.ensures.value) at c.in_default.ensures.missing.none in
    let same = c.grow.ensures.missing none in
    let no : IsUnreplaced (world (state_of h) files) a.query a.source a.by (NoSuchQuery a.query) = inr (inr (inl (_, _, s.root.text, s.other.text, none, refl))) in
    rw same.1 (c.reject.ensures.done h (form.ReplaceDoc a.name a.query a.source a.by a.longest) files faults c.args.looks.now c.args.pairs.now c.args.places.now
    (record { session = c.requires; refused = inl no; free = inl (_, no, refl) }) (ap (λ (b : Book). record h { book = b }) same.0))

pub returns-in_default-clause-stopped : goal.returns-in_default-clause-stopped
returns-in_default-clause-stopped g c = λ files faults.
    let h = c.args.session.now in
    let a = c.args.asked in
    let same = c.grow.ensures.missing (rw (c.grow.ensures.grown.queries, c.bytes.ensures.value) at c.in_default.ensures.missing.none) in
    rw same.1 (c.reject.ensures.stopped h (form.ReplaceDoc a.name a.query a.source a.by a.longest) c.requires (ap (λ (b : Book). record h { book = b }) same.0) files faults c.args.looks.now c.args.pairs.now c.args.places.now)

pub returns-then-count-ne1-clause-done : goal.returns-then-count-ne1-clause-done
returns-then-count-ne1-clause-done g c = λ files faults.
    let r = c.in-Ok-ready.ensures in
    let registered = rw c.bytes.ensures.value at r.query in
    let count : c.count-count.result ≡ length (names_of (query_of c.in-Ok-ready.ready.tree)) = c.count-count.ensures.count ∙ ap length c.vars.ensures in
    let a = c.in_ok-answer-in-Ok in
    many_answers c.args.asked.query c.requires c.in-Ok.ensures.ok c.grow.ensures.grown r.store registered c.args.asked.longest c.args.context.number c.args.asked.name files faults c.args.looks.now c.args.pairs.now a.answer
    (λ one. c.if-count-ne1.true (count ∙ one)) a.ensures.0 (a.ensures.1 ∙ ap (λ n. refusal_text c.args.context.number (NotOneVariable n)) count)

pub returns-in-Ok-choose_spans-clause-done : goal.returns-in-Ok-choose_spans-clause-done
returns-in-Ok-choose_spans-clause-done g c = λ files faults.
    let r = c.in-Ok-ready.ensures in
    let registered = rw c.bytes.ensures.value at r.query in
    let one : length (names_of (query_of c.in-Ok-ready.ready.tree)) ≡ 1 = omega (arith, ap length c.vars.ensures, c.if-count-ne1.false, c.count-count.ensures.count) in
    let new = c.put_replaced.ensures in
    replaced_answers c.args.asked.query c.requires c.in-Ok.ensures.ok c.grow.ensures.grown r.store registered one _ c.args.asked.name files faults _ c.in-Ok-choose_spans.ensures.choice _ _ new.others new.grows new.live new.cost _
    c.in_ok-answer-in-Ok-choose_spans.ensures.ok

pub returns-in-Err-TooManyMatches-clause-done : goal.returns-in-Err-TooManyMatches-clause-done
returns-in-Err-TooManyMatches-clause-done g c = λ files faults.
    let r = c.in-Ok-ready.ensures in
    let registered = rw c.bytes.ensures.value at r.query in
    let one : length (names_of (query_of c.in-Ok-ready.ready.tree)) ≡ 1 = omega (arith, ap length c.vars.ensures, c.if-count-ne1.false, c.count-count.ensures.count) in
    let a = c.in_ok-answer-in-Err-TooManyMatches in
    unchosen_answers c.args.asked.query c.requires c.in-Ok.ensures.ok c.grow.ensures.grown r.store registered one _ c.args.asked.name files faults _ a.answer (rw c.in-Err-TooManyMatches.field-0-is at c.in-Err-TooManyMatches.ensures.choice) a.ensures.0 a.ensures.1

pub returns-in-Ok-clause-stopped : goal.returns-in-Ok-clause-stopped
returns-in-Ok-clause-stopped g c = λ files faults.
    let r = c.in-Ok-ready.ensures in
    let registered = rw c.bytes.ensures.value at r.query in
    let one : length (names_of (query_of c.in-Ok-ready.ready.tree)) ≡ 1 = omega (arith, ap length c.vars.ensures, c.if-count-ne1.false, c.count-count.ensures.count) in
    choose_stopped c.args.asked.query c.requires c.in-Ok.ensures.ok c.grow.ensures.grown r.store registered one _ c.args.asked.name files faults _ c.choose_spans.ensures.choice (Err stop.NoMemory) refl

pub returns-clause-done : goal.returns-clause-done
returns-clause-done g c = λ files faults.
    let a = c.args.asked in
    c.reject-in-Err.ensures.done _ (form.ReplaceDoc a.name a.query a.source a.by a.longest) files faults c.args.looks.now c.args.pairs.now c.args.places.now
    (rw c.unreplaced.ensures (record { session = c.requires; refused = inl (c.in-Err.ensures.err files); free = inl (_, c.in-Err.ensures.err files, refl) })) refl
