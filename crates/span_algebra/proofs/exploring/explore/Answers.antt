use Rattle.std.proofs.Common.{◌≡◌, ◌≤◌, ◌∙◌, List, ℕ, Some, slice_get, length, ap, sym, subst, arith}
use Rattle.std.proofs.lemmas.Option.{slice_get-get_or}
use Rattle.std.proofs.lemmas.Result.{err_from_is_err_and}
use Rattle.marker_dfa.proofs.Lists.{contains_at}
use Rattle.span_algebra.specs.Renaming.{both_names}
use Rattle.span_algebra.specs.Products.{AreFound}
use Rattle.span_algebra.specs.TreeAutomaton.{JoinStep, join_size}
use Rattle.span_algebra.proofs.JoinLaws.{AreApart}
use Rattle.span_algebra.proofs.JointLaws.{may-meet, vars-apart}
use Rattle.span_algebra.proofs.FoundLaws.{short-steps, found-start, found-between, found-next, found-refused}
use Rattle.span_algebra.proofs.exploring.explore.Goals as goal

pub pairs-init : goal.pairs-init
pairs-init c =
    let va = c.args.left.names.now in let vb = c.args.right.names.now in
    let apart : AreApart (both_names va vb) = subst (λ (l : List (List ℕ)). AreApart l) c.requires.names (vars-apart c.args.names.now c.count-count.ensures.vars.distinct) in
    let few : length (both_names va vb) ≤ 8 = omega (arith, c.count-count.ensures.vars.few, ap length c.requires.names) in
    rw (c.new-edges.ensures) (found-start c.args.left.dfa.now va c.args.right.dfa.now vb c.states-left_states.ensures.automaton c.states-right_states.ensures.automaton c.requires.left c.requires.right (vars-apart va c.count-left_count.ensures.vars.distinct) (vars-apart vb c.count-right_count.ensures.vars.distinct) apart few
    c.in_ok-meeting.meeting c.in_ok-meeting.ensures c.args.classes.now c.requires.of_left c.requires.of_right c.args.most c.in_ok-pairs.pairs.items c.requires.some c.in_ok-pairs.ensures)

pub steps_of-requires-clause-within : goal.steps_of-requires-clause-within
steps_of-requires-clause-within c =
    let at : slice_get c.pairs.pairs.items c.pairs.done ≡ Some c.index.result.now = slice_get-get_or c.pairs.pairs.items c.pairs.done c.index.result.now (omega (arith, c.pairs-test.true, c.len.ensures, c.pairs.pairs.ok.0)) ∙ ap Some (sym c.index.ensures) in
    c.pairs.invariant.within c.index.result.now (contains_at c.pairs.pairs.items c.pairs.done c.index.result.now at)

pub steps_of-requires-clause-meeting : goal.steps_of-requires-clause-meeting
steps_of-requires-clause-meeting c =
    let va = c.args.left.names.now in let vb = c.args.right.names.now in
    let few : length (both_names va vb) ≤ 8 = omega (arith, c.count-count.ensures.vars.few, ap length c.requires.names) in
    may-meet va vb (vars-apart va c.count-left_count.ensures.vars.distinct) (vars-apart vb c.count-right_count.ensures.vars.distinct) c.in_ok-meeting.meeting c.in_ok-meeting.ensures c.count-left_count.ensures.vars.few c.count-right_count.ensures.vars.few few

pub steps_of-requires-clause-short : goal.steps_of-requires-clause-short
steps_of-requires-clause-short c =
    let va = c.args.left.names.now in let vb = c.args.right.names.now in
    let apart : AreApart (both_names va vb) = subst (λ (l : List (List ℕ)). AreApart l) c.requires.names (vars-apart c.args.names.now c.count-count.ensures.vars.distinct) in
    let few : length (both_names va vb) ≤ 8 = omega (arith, c.count-count.ensures.vars.few, ap length c.requires.names) in
    short-steps c.args.left.dfa.now va c.args.right.dfa.now vb c.states-left_states.ensures.automaton c.states-right_states.ensures.automaton c.requires.left c.requires.right (vars-apart va c.count-left_count.ensures.vars.distinct) (vars-apart vb c.count-right_count.ensures.vars.distinct) apart few
    c.in_ok-meeting.meeting c.in_ok-meeting.ensures c.args.classes.now c.requires.of_left c.requires.of_right

pub pairs-preserved : goal.pairs-preserved
pairs-preserved c =
    let va = c.args.left.names.now in let vb = c.args.right.names.now in
    let apart : AreApart (both_names va vb) = subst (λ (l : List (List ℕ)). AreApart l) c.requires.names (vars-apart c.args.names.now c.count-count.ensures.vars.distinct) in
    let few : length (both_names va vb) ≤ 8 = omega (arith, c.count-count.ensures.vars.few, ap length c.requires.names) in
    let at : slice_get c.pairs.pairs.items c.pairs.done ≡ Some c.index.result.now = slice_get-get_or c.pairs.pairs.items c.pairs.done c.index.result.now (omega (arith, c.pairs-test.true, c.len.ensures, c.pairs.pairs.ok.0)) ∙ ap Some (sym c.index.ensures) in
    let are = c.in_ok-found.ensures in
    let gains = rw (c.deref.ensures.value) at c.in_ok-put_targets.ensures.gains in
    let all = rw (c.deref-in-pairs.ensures.value, c.deref-in-pairs-2.ensures.value) at c.in_ok-put_numbered.ensures in
    found-next c.args.left.dfa.now va c.args.right.dfa.now vb c.states-left_states.ensures.automaton c.states-right_states.ensures.automaton c.requires.left c.requires.right (vars-apart va c.count-left_count.ensures.vars.distinct) (vars-apart vb c.count-right_count.ensures.vars.distinct) apart few
    c.in_ok-meeting.meeting c.in_ok-meeting.ensures c.args.classes.now c.requires.of_left c.requires.of_right
    c.args.most c.pairs.done c.pairs.pairs.items c.pairs.edges c.pairs.invariant c.index.result.now at c.in_ok-found.found.items are
    c.put_targets.new.pairs.items c.put_numbered.new.edges gains all

pub put_numbered-requires-clause-few : goal.put_numbered-requires-clause-few
put_numbered-requires-clause-few c = let few = c.in_ok-put_targets.ensures.gains.few in rw (c.deref-in-pairs.ensures.value) (record { apart = few.apart; few = omega (arith, few.few, c.requires.many) })

pub put_numbered-requires-clause-between : goal.put_numbered-requires-clause-between
put_numbered-requires-clause-between c =
    let va = c.args.left.names.now in let vb = c.args.right.names.now in
    let apart : AreApart (both_names va vb) = subst (λ (l : List (List ℕ)). AreApart l) c.requires.names (vars-apart c.args.names.now c.count-count.ensures.vars.distinct) in
    let few : length (both_names va vb) ≤ 8 = omega (arith, c.count-count.ensures.vars.few, ap length c.requires.names) in
    let at : slice_get c.pairs.pairs.items c.pairs.done ≡ Some c.index.result.now = slice_get-get_or c.pairs.pairs.items c.pairs.done c.index.result.now (omega (arith, c.pairs-test.true, c.len.ensures, c.pairs.pairs.ok.0)) ∙ ap Some (sym c.index.ensures) in
    let are = c.in_ok-found.ensures in
    let gains = rw (c.deref.ensures.value) at c.in_ok-put_targets.ensures.gains in
    rw (c.deref-in-pairs.ensures.value, c.deref-in-pairs-2.ensures.value) (found-between c.args.left.dfa.now va c.args.right.dfa.now vb c.states-left_states.ensures.automaton c.states-right_states.ensures.automaton c.requires.left c.requires.right (vars-apart va c.count-left_count.ensures.vars.distinct) (vars-apart vb c.count-right_count.ensures.vars.distinct) apart few
    c.in_ok-meeting.meeting c.in_ok-meeting.ensures c.args.classes.now c.requires.of_left c.requires.of_right
    c.args.most c.pairs.done c.pairs.pairs.items c.pairs.edges c.pairs.invariant c.index.result.now at c.in_ok-found.found.items are
    c.put_targets.new.pairs.items gains)

pub returns-in_err-put_targets-clause-refused : goal.returns-in_err-put_targets-clause-refused
returns-in_err-put_targets-clause-refused c =
    let va = c.args.left.names.now in let vb = c.args.right.names.now in
    let apart : AreApart (both_names va vb) = subst (λ (l : List (List ℕ)). AreApart l) c.requires.names (vars-apart c.args.names.now c.count-count.ensures.vars.distinct) in
    let few : length (both_names va vb) ≤ 8 = omega (arith, c.count-count.ensures.vars.few, ap length c.requires.names) in
    let at : slice_get c.pairs.pairs.items c.pairs.done ≡ Some c.index.result.now = slice_get-get_or c.pairs.pairs.items c.pairs.done c.index.result.now (omega (arith, c.pairs-test.true, c.len.ensures, c.pairs.pairs.ok.0)) ∙ ap Some (sym c.index.ensures) in
    let are = c.in_ok-found.ensures in
    let refused = rw (c.deref.ensures.value) at c.in_err-put_targets.ensures.refused in
    let p = err_from_is_err_and c.from_residual-in_err-put_targets.result c.from_residual-in_err-put_targets.ensures.1 in
    rw (p.1, p.2) (found-refused c.args.left.dfa.now va c.args.right.dfa.now vb c.states-left_states.ensures.automaton c.states-right_states.ensures.automaton c.requires.left c.requires.right (vars-apart va c.count-left_count.ensures.vars.distinct) (vars-apart vb c.count-right_count.ensures.vars.distinct) apart few
    c.in_ok-meeting.meeting c.in_ok-meeting.ensures c.args.classes.now c.requires.of_left c.requires.of_right
    c.args.most c.pairs.done c.pairs.pairs.items c.pairs.edges c.pairs.invariant c.index.result.now at c.in_ok-found.found.items are _ refused)

pub returns-clause-explored : goal.returns-clause-explored
returns-clause-explored c =
    let e : c.pairs.done ≡ length c.pairs.pairs.items = omega (arith, c.pairs-test.false, c.len.ensures, c.pairs.pairs.ok.0, c.pairs.invariant.passed) in
    record {
      found = subst (λ (k : ℕ). AreFound c.args.most c.args.left.dfa.now c.args.right.dfa.now (join_size c.args.left.dfa.now) (JoinStep c.args.left.dfa.now c.args.left.names.now c.args.right.dfa.now c.args.right.names.now) c.args.classes.now k c.pairs.pairs.items c.pairs.edges) e c.pairs.invariant;
    }
