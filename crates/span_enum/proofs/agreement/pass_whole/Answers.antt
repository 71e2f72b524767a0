use Rattle.span_enum.proofs.Base.{ap, arith, no-state, not-both, member, reached, refl, same-state, sym, text_at, word_over, ◌∙◌, ◌≡◌}
use Rattle.span_enum.proofs.Runs.{Tells}
use Rattle.span_enum.proofs.Tables.{look-table}
use Rattle.span_enum.proofs.Words.{over-count, over-plain}
use Rattle.span_enum.proofs.agreement.pass_whole.Goals.{After-unmarked}
use Rattle.span_enum.proofs.agreement.pass_whole.Goals as goal
use Rattle.span_enum.proofs.agreement.pass_whole.Given.{Over}

pub returns-then-is_marked_between : goal.returns-then-is_marked_between
returns-then-is_marked_between g c = λ q e m.
    let h = c.args.here.now in
    let found = c.if-is_marked_between.ensures.some refl in
    over-count c.args.t.now h.at (text_at c.args.input.now h.id.index) found.position found.after (omega (arith, found.before, c.requires.is_ahead.look.len_is)) found.some

-- without a mark of the tuple its word is that of the unmarked run
unmarked-run : (g : Over) (c : After-unmarked g) → reached c.args.input.now.dfa.now c.args.p (word_over c.args.t.now c.args.here.now.at (text_at c.args.input.now c.args.here.now.id.index)) ≡ c.unmarked.result
unmarked-run g c =
    let input = c.args.input.now in
    let h = c.args.here.now in
    let is : Tells input.dfa.now (text_at input h.id.index) h.look.table.now =
    look-table input.dfa.now input.view.store.now input.view.tables.now c.requires.input.ready.tables input.view.counted h.id.index _ _ _ c.requires.is_ahead.live c.requires.is_ahead.look in
    let plain = over-plain c.args.t.now h.at (text_at input h.id.index) (λ q from to. c.if-is_marked_between.ensures.none refl q from (omega (arith, to, c.requires.is_ahead.look.len_is))) in
    ap (reached input.dfa.now c.args.p) plain ∙ sym (is.unmarked c.args.p c.requires.state) ∙ sym c.unmarked.ensures.value

pub returns-then-holds : goal.returns-then-holds
returns-then-holds g c = (unmarked-run g (goal.at.returns-then-holds g c).After-unmarked ∙ c.in-Some.is, sym c.if-holds.ensures)

pub returns-else-holds : goal.returns-else-holds
returns-else-holds g c = λ q e m.
    let o = c.unmarked.result in
    let run = unmarked-run g (goal.at.returns-else-holds g c).After-unmarked in
    let same = same-state q c.in-Some.q o (sym run ∙ e) c.in-Some.is in
    not-both (member c.args.here.now.goals c.in-Some.q) (ap (member c.args.here.now.goals) (sym same) ∙ m) (sym c.if-holds.ensures)

pub returns-in-None : goal.returns-in-None
returns-in-None g c = λ q e m. absurd (no-state q c.unmarked.result c.in-None.is (sym (unmarked-run g (goal.at.returns-in-None g c).After-unmarked) ∙ e))
