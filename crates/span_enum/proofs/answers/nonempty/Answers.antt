use Rattle.span_enum.proofs.Base.{IsTable, [], arith, is_final, length, not, refl, sym, text, tree, ◌<◌, ◌∙◌, ◌≡◌}
use Rattle.span_enum.proofs.Runs.{end-run, run-end}
use Rattle.span_enum.proofs.Tables.{look-is}
use Rattle.span_enum.proofs.Tuples.{IsText, accepted-from_some, look-text, no-text, some-from_accepted}
use Rattle.span_enum.proofs.answers.nonempty.Given.{Over}
use Rattle.span_enum.proofs.answers.nonempty.Goals.{After-look-look}
use Rattle.span_enum.proofs.answers.nonempty.Goals as goal

pub returns-in-None-clause-some : goal.returns-in-None-clause-some
returns-in-None-clause-some g c =
    let a = c.args.dfa.now in
    let auto = c.states-states.ensures.automaton in
    let tests : not c.is_empty.result ≡ is_final a 0 = rw (c.is_empty.ensures, c.ends.ensures) refl in
    rw c.in-None.is ((λ h. some-from_accepted a auto [] no-text (end-run a 0 (sym tests ∙ h))), (λ h. tests ∙ run-end a 0 (accepted-from_some a auto [] no-text h)))

-- the table of the root
table : (g : Over) (c : After-look-look g) → IsTable c.args.dfa.now (text (tree c.args.view.store.now c.in-Some.id.index)) c.look-look.result.table.now
table g c =
    let view = c.args.view in
    let live : c.in-Some.id.index < length view.store.now = rw c.in-Some.is at c.requires.live in
    look-is c.args.dfa.now view.store.now view.tables.now c.requires.tables view.counted c.in-Some.id.index _ _ _ live c.look-look.ensures.look

pub is_accepted-requires : goal.is_accepted-requires
is_accepted-requires g c = omega (arith, (table g (goal.at.is_accepted-requires g c).After-look-look).shape.states, c.states-states.ensures.automaton.has_start)

pub returns-in-Some-clause-some : goal.returns-in-Some-clause-some
returns-in-Some-clause-some g c =
    let view = c.args.view in
    let a = c.args.dfa.now in
    let auto = c.states-states.ensures.automaton in
    let live : c.in-Some.id.index < length view.store.now = rw c.in-Some.is at c.requires.live in
    let s = text (tree view.store.now c.in-Some.id.index) in
    let k : IsText s = look-text a view.store.now view.tables.now c.requires.tables view.counted c.in-Some.id.index _ _ _ live c.look-look.ensures.look in
    let both = c.is_accepted.ensures s (table g (goal.at.returns-in-Some-clause-some g c).After-look-look) in
    rw c.in-Some.is (
      (λ h. some-from_accepted a auto s k (both.0 h)),
      (λ h. both.1 (accepted-from_some a auto s k h)),
    )
