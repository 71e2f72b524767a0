use Rattle.span_enum.proofs.Base.{[], ap, arith, sym, text_ahead, whole_text, ◌∙◌, ◌≡◌}
use Rattle.span_enum.proofs.Chains.{next-there}
use Rattle.span_enum.proofs.Roots.{root-tells}
use Rattle.span_enum.proofs.Runs.{Tells, goal-from_nothing, run-from_table, run-nothing, table-from_run}
use Rattle.span_enum.proofs.Ways.{back-none}
use Rattle.span_enum.proofs.enumeration.has_first.Goals.{After-ahead_at}
use Rattle.span_enum.proofs.enumeration.has_first.Goals as goal
use Rattle.span_enum.proofs.enumeration.has_first.Given.{Over}

pub returns-then-count-eq0 : goal.returns-then-count-eq0
returns-then-count-eq0 g c =
    let input = c.args.input.now in
    let fresh = c.requires.fresh in
    let none : whole_text input ≡ [] = sym fresh.text_is ∙ ap (text_ahead input) (back-none c.args.trail.now.ahead.items _ fresh.chain fresh.stands.ahead (omega (arith, c.len-count.ensures.value, c.if-count-eq0.true))) in
    rw none ((λ h. run-nothing input.dfa.now 0 input.finals (sym c.holds.ensures ∙ h)), (λ run. c.holds.ensures ∙ goal-from_nothing input.dfa.now 0 input.finals run))

pub ahead_at-requires : goal.ahead_at-requires
ahead_at-requires g c =
    let fresh = c.requires.fresh in
    (omega (arith, c.requires.input.narrow), (omega (arith, c.requires.input.narrow), next-there c.args.trail.now.ahead.items c.len-count.result fresh.chain (rw c.len-count.ensures.value fresh.stands.ahead) (omega (arith, c.if-count-eq0.false))))

-- what the root's table says of the text
tells-all : (g : Over) (c : After-ahead_at g) → Tells c.args.input.now.dfa.now (whole_text c.args.input.now) c.ahead_at.result.look.table.now
tells-all g c =
    let count = c.len-count.ensures.value in
    root-tells c.args.input.now c.requires.input c.args.trail.now.marks.items c.args.trail.now.ahead.items c.ahead_at.result c.requires.fresh (omega (arith, c.if-count-eq0.false, count))
    (λ before e. c.ahead_at.ensures before (count ∙ e))

pub can_reach-requires : goal.can_reach-requires
can_reach-requires g c = omega (arith, (tells-all g (goal.at.can_reach-requires g c).After-ahead_at).shape.states, c.requires.input.automaton.has_start)

pub returns : goal.returns
returns g c =
    let input = c.args.input.now in
    let tells = tells-all g (goal.at.returns g c).After-ahead_at in
    let table = c.ahead_at.result.look.table.now in (
      (λ h. run-from_table input.dfa.now (whole_text input) table 0 input.finals tells c.requires.input.automaton.has_start (sym c.can_reach.ensures ∙ h)),
      (λ run. c.can_reach.ensures ∙ table-from_run input.dfa.now (whole_text input) table 0 input.finals tells c.requires.input.automaton.has_start run),
    )
