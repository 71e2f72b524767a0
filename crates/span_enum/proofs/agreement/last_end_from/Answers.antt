use Rattle.span_enum.proofs.Base.{IsAhead, [], ap, arith, height, height-by_leaves, length, length-text, looks_limit, mark_count, reached, refl, Some, subst, sym, text, text_of, tree, whole_text, word_over, ◌*◌, ◌+◌, ◌<◌, ◌∷◌, ◌≡◌, ◌≤◌}
use Rattle.span_enum.proofs.LastEnds.{late-end, until-end, whole-end}
use Rattle.span_enum.proofs.Roots.{input-text}
use Rattle.span_enum.proofs.Runs.{run-from_accepted, table-from_run}
use Rattle.span_enum.proofs.Tables.{look-table}
use Rattle.span_enum.proofs.Tuples.{IsText, accepted-from_some, few-marks}
use Rattle.span_enum.proofs.Words.{looks-within}
use Rattle.span_enum.specs.Agreement.{AgreesUntil}
use Rattle.span_enum.specs.LastEnd.{IsLastEnd}
use Rattle.span_enum.specs.Words.{CanRun}
use Rattle.span_enum.proofs.agreement.last_end_from.Given.{Over}
use Rattle.span_enum.proofs.agreement.last_end_from.Goals.{After-look-look, After-agreement_over}
use Rattle.span_enum.proofs.agreement.last_end_from.Goals as goal

pub opened-requires-clause-positive : goal.opened-requires-clause-positive
opened-requires-clause-positive g c =
    let some = c.requires.some in
    omega (arith, (some.member.lies 0 some.span refl).0, some.start_is)

pub opened-requires-clause-small : goal.opened-requires-clause-small
opened-requires-clause-small g c =
    let some = c.requires.some in
    let f = some.member.lies 0 some.span refl in
    omega (arith, f.1, f.2, some.start_is, c.requires.end, c.requires.low)

-- the text is that of the root
root-text : (g : Over) (c : After-look-look g) → whole_text c.args.input.now ≡ text (tree c.args.input.now.view.store.now c.in-Some.id.index)
root-text g c = ap (text_of c.args.input.now.view.store.now) c.in-Some.is

is-text : (g : Over) (c : After-look-look g) → IsText (whole_text c.args.input.now)
is-text g c = input-text c.args.input.now c.requires.input (omega (arith, c.requires.end, c.requires.low))

pub agreement_over-requires : goal.agreement_over-requires
agreement_over-requires g c =
    let input = c.args.input.now in
    let a = input.dfa.now in
    let auto = c.requires.input.automaton in
    let k = (goal.at.agreement_over-requires g c).After-look-look in
    let live : c.in-Some.id.index < length input.view.store.now = rw c.in-Some.is at c.requires.input.ready.live in
    let is = look-table a input.view.store.now input.view.tables.now c.requires.input.ready.tables input.view.counted c.in-Some.id.index _ _ _ live c.look-look.ensures.look in
    let accepted = accepted-from_some a auto (whole_text input) (is-text g k) (Some c.requires.some.span ∷ [], c.requires.some.member) in
    let run = subst (λ x. CanRun a 0 x input.finals) (root-text g k) (run-from_accepted a auto input.finals c.requires.input.all (whole_text input) accepted) in
    let can = table-from_run a (text (tree input.view.store.now c.in-Some.id.index)) c.look-look.result.table.now 0 input.finals is auto.has_start run in
    let look = c.look-look.ensures.look in
    let ahead : IsAhead input (record { id = c.in-Some.id; look = c.look-look.result; at = 1; goals = input.finals; quiet = input.quiet; next = 0 }) = record { live = live; look = look; positive = omega arith; low = omega (arith, look.short, look.len_is) } in
    (omega (arith, c.requires.input.narrow), (omega (arith, c.requires.input.narrow), (c.requires.input, (ahead, (auto.has_start, can)))))

pub returns-in-None-clause-end : goal.returns-in-None-clause-end
returns-in-None-clause-end g c =
    let input = c.args.input.now in
    let some = c.requires.some in
    let s = whole_text input in
    let none : length s ≡ 0 = ap (λ r. length (text_of input.view.store.now r)) c.in-None.is in
    let known = input-text input c.requires.input (omega (arith, c.requires.end, c.requires.low)) in
    subst (IsLastEnd input.dfa.now s c.args.start) (sym c.requires.end)
    (late-end input.dfa.now c.requires.input.automaton c.requires.one s known input.finals c.requires.input.all c.args.start some (omega (arith, none, (some.member.lies 0 some.span refl).0, some.start_is)))

pub returns-in-Whole-clause-end : goal.returns-in-Whole-clause-end
returns-in-Whole-clause-end g c =
    let input = c.args.input.now in
    let s = whole_text input in
    let k = (goal.at.returns-in-Whole-clause-end g c).After-look-look in
    let q = c.in-Whole.field-0 in
    let run = subst (λ x. reached input.dfa.now 0 (word_over c.opened.result 1 x) ≡ Some q) (sym (root-text g k)) c.in-Whole.ensures.agreement.0 in
    subst (IsLastEnd input.dfa.now s c.args.start) (sym c.requires.end)
    (whole-end input.dfa.now c.requires.input.automaton c.requires.one s (is-text g k) input.finals c.requires.input.all c.args.start c.requires.some q
    (subst (λ t. reached input.dfa.now 0 (word_over t 1 s) ≡ Some q) c.opened.ensures run) c.in-Whole.ensures.agreement.1)

pub returns-in-Until-clause-end : goal.returns-in-Until-clause-end
returns-in-Until-clause-end g c =
    let input = c.args.input.now in
    let s = whole_text input in
    let k = (goal.at.returns-in-Until-clause-end g c).After-look-look in
    let p = c.in-Until.position in
    let there = subst (λ x. AgreesUntil input.dfa.now 0 c.opened.result 1 x input.finals p) (sym (root-text g k)) c.in-Until.ensures.agreement in
    until-end input.dfa.now c.requires.input.automaton c.requires.one s (is-text g k) input.finals c.requires.input.all c.args.start c.requires.some p
    (subst (λ t. AgreesUntil input.dfa.now 0 t 1 s input.finals p) c.opened.ensures there)

-- at most two marks lead to two paths each, and one more is that to the end
paid : (g : Over) (c : After-agreement_over g)
    → c.agreement_over.new.looks ≤ c.args.looks.now + 1 + 2 * (height (tree c.args.input.now.view.store.now c.in-Some.id.index) * mark_count (word_over c.opened.result 1 (text (tree c.args.input.now.view.store.now c.in-Some.id.index))))
    + 2 * height (tree c.args.input.now.view.store.now c.in-Some.id.index)
    → c.agreement_over.new.looks ≤ c.args.looks.now + looks_limit 1 (length (whole_text c.args.input.now))
paid g c le =
    let nodes = c.args.input.now.view.store.now in
    let t = tree nodes c.in-Some.id.index in
    subst (λ r. c.agreement_over.new.looks ≤ c.args.looks.now + looks_limit 1 (length (text_of nodes r))) (sym c.in-Some.is)
    (looks-within 1 (length (text t)) (height t) _ c.args.looks.now _ (rw (length-text t) (height-by_leaves t c.look-look.ensures.look.balanced)) (few-marks 1 c.opened.result (text t) (ap length c.opened.ensures)) le)

pub returns-in-Whole-clause-cost : goal.returns-in-Whole-clause-cost
returns-in-Whole-clause-cost g c = paid g (goal.at.returns-in-Whole-clause-cost g c).After-agreement_over (omega (arith, c.look-look.ensures.step, c.in-Whole.ensures.cost))

pub returns-in-Until-clause-cost : goal.returns-in-Until-clause-cost
returns-in-Until-clause-cost g c = paid g (goal.at.returns-in-Until-clause-cost g c).After-agreement_over (omega (arith, c.look-look.ensures.step, c.in-Until.ensures.cost))
