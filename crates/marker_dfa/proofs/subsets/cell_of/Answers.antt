use Rattle.std.proofs.Common.{◌≡◌, ◌<◌, ◌≤◌, ℕ, List, Some, ap, sym, ◌∙◌, subst, arith, length, slice_get, get_or}
use Rattle.std.proofs.lemmas.Option.{slice_get-get_or, get_or_from_slice_get}
use Rattle.marker_nfa.specs.Automaton.{Moves}
use Rattle.marker_dfa.specs.Bundled.{automaton_in}
use Rattle.marker_dfa.specs.declared.exits.Step.{Step}
use Rattle.marker_dfa.specs.Reached.{IsMove}
use Rattle.marker_dfa.specs.Making.{AreSteps}
use Rattle.marker_dfa.proofs.Leaving.{mark_among, mark_of, marks_fall, marks_of}
use Rattle.marker_dfa.proofs.Growing.{step_refused, step_more, cells_end}
use Rattle.marker_dfa.proofs.Lists.{length_map}
use Rattle.marker_dfa.proofs.Refused.{carried}
use Rattle.marker_dfa.proofs.subsets.cell_of.Goals as goal

pub returns-in_err-target-clause-refused : goal.returns-in_err-target-clause-refused
returns-in_err-target-clause-refused c =
    let items = c.deref-step-items.ensures.value in
    let steps = c.deref-step-items.result.now in
    let are = subst (λ (l : List Step). AreSteps (automaton_in c.args.nfa.now) c.args.exits.now.from c.args.readers.now.byte l) (sym items) c.in_ok-steps.ensures in
    let k = c.loop-step.step-index in
    let e = c.step-item.result in
    let lt : k < length steps = c.loop-step-test.true in
    let at : slice_get steps k ≡ Some e = slice_get-get_or steps k e lt ∙ ap Some (sym c.step-item.is) in
    let same : e.mark ≡ get_or (marks_of steps) k 0 = sym (get_or_from_slice_get (marks_of steps) k e.mark 0 (mark_of steps k e at)) in
    let move = subst (λ (m : ℕ). IsMove c.args.nfa.now.states (Moves (automaton_in c.args.nfa.now)) c.args.exits.now.from m c.args.readers.now.byte e.to) same (are.moves k e at) in
    let up : k < length (marks_of steps) = omega (arith, lt, length_map (λ (z : Step). z.mark) steps) in
    carried ℕ _ _ _ _ c.from_residual-in_err-target.ensures.1 (λ full. step_refused c.args.plan.now.most (automaton_in c.args.nfa.now) (marks_of steps) c.args.readers.now.byte k _ _ _ _ c.args.exits.now.from e.to c.loop-step.invariant c.requires.reached move (are.filled k e at) full) c.in_err-target.ensures.refused

pub loop-step-preserved : goal.loop-step-preserved
loop-step-preserved c =
    let items = c.deref-step-items.ensures.value in
    let steps = c.deref-step-items.result.now in
    let are = subst (λ (l : List Step). AreSteps (automaton_in c.args.nfa.now) c.args.exits.now.from c.args.readers.now.byte l) (sym items) c.in_ok-steps.ensures in
    let k = c.loop-step.step-index in
    let e = c.step-item.result in
    let lt : k < length steps = c.loop-step-test.true in
    let at : slice_get steps k ≡ Some e = slice_get-get_or steps k e lt ∙ ap Some (sym c.step-item.is) in
    let same : e.mark ≡ get_or (marks_of steps) k 0 = sym (get_or_from_slice_get (marks_of steps) k e.mark 0 (mark_of steps k e at)) in
    let move = subst (λ (m : ℕ). IsMove c.args.nfa.now.states (Moves (automaton_in c.args.nfa.now)) c.args.exits.now.from m c.args.readers.now.byte e.to) same (are.moves k e at) in
    let up : k < length (marks_of steps) = omega (arith, lt, length_map (λ (z : Step). z.mark) steps) in
    let few : length c.index_of.new.found.sets.items ≤ c.args.plan.now.most = omega (arith, c.index_of.new.found.sets.ok.0, c.in_ok-target.ensures.few) in
    rw (c.in_ok-push.ensures.marks, c.in_ok-push.ensures.targets, same) (step_more c.args.plan.now.most (automaton_in c.args.nfa.now) (marks_of steps) c.args.readers.now.byte k _ _ _ _ c.args.exits.now.from e.to _ _ c.loop-step.invariant (marks_fall (automaton_in c.args.nfa.now) c.args.exits.now.from c.args.readers.now.byte steps are) up c.requires.reached move (are.filled k e at) c.in_ok-target.ensures.placed few)

pub returns-clause-cell : goal.returns-clause-cell
returns-clause-cell c =
    let items = c.deref-step-items.ensures.value in
    let steps = c.deref-step-items.result.now in
    let are = subst (λ (l : List Step). AreSteps (automaton_in c.args.nfa.now) c.args.exits.now.from c.args.readers.now.byte l) (sym items) c.in_ok-steps.ensures in
    let le : length (marks_of steps) ≤ c.loop-step.step-index = omega (arith, c.loop-step-test.false, length_map (λ (z : Step). z.mark) steps) in
    cells_end (automaton_in c.args.nfa.now) (marks_of steps) c.args.exits.now.from c.args.readers.now.byte c.loop-step.step-index _ _ _ le (λ m o p i mv. mark_among (automaton_in c.args.nfa.now) c.args.exits.now.from c.args.readers.now.byte steps m o p are i mv) c.loop-step.invariant.cell
