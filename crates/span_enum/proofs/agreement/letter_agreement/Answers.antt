use Rattle.span_enum.proofs.Base.{[], ap, step_of, subst, sym, text_at, ◌∙◌, ◌∷◌, ◌≡◌}
use Rattle.span_enum.proofs.Agreed.{until-byte}
use Rattle.span_enum.proofs.Runs.{low-mark, run-from_table}
use Rattle.span_enum.proofs.Tables.{byte-text, look-table}
use Rattle.span_enum.specs.Agreement.{AgreesUntil}
use Rattle.span_enum.specs.Words.{CanRun}
use Rattle.span_enum.proofs.agreement.letter_agreement.Goals as goal

pub returns-in-None : goal.returns-in-None
returns-in-None g c =
    let input = c.args.input.now in
    let a = input.dfa.now in
    let h = c.args.here.now in
    let nodes = input.view.store.now in
    let one : text_at input h.id.index ≡ c.args.byte ∷ [] = byte-text nodes h.id.index c.args.byte (rw c.requires.byte at c.requires.is_ahead.look.node_is) in
    let is = look-table a nodes input.view.tables.now c.requires.input.ready.tables input.view.counted h.id.index _ _ _ c.requires.is_ahead.live c.requires.is_ahead.look in
    let run = subst (λ x. CanRun a c.args.p x h.goals) one (run-from_table a (text_at input h.id.index) h.look.table.now c.args.p h.goals is c.requires.state c.requires.can) in
    subst (λ x. AgreesUntil a c.args.p c.args.t.now h.at x h.goals h.at) (sym one)
    (until-byte a c.args.p c.args.byte h.at c.args.t.now h.goals run (λ q e goal.
    let step = ap (λ m. step_of a c.args.p m c.args.byte) c.mark_at.ensures ∙ e in
    c.in-None.ensures.step (low-mark a c.requires.input.automaton c.args.p c.mark_at.result c.args.byte q step) q step goal))
