use Rattle.std.proofs.Common.{◌≤◌, ◌∙◌, ℕ, List, length, ap, subst, arith}
use Rattle.marker_dfa.specs.Bundled.{automaton_in}
use Rattle.span_algebra.specs.Renaming.{both_names}
use Rattle.span_algebra.specs.TreeAutomaton.{JoinStep, join_size}
use Rattle.span_algebra.proofs.JoinLaws.{AreApart}
use Rattle.span_algebra.proofs.JoinParts.{join-automaton, join-nfa}
use Rattle.span_algebra.proofs.JointLaws.{may-meet, vars-apart}
use Rattle.span_algebra.proofs.SameLaws.{join-same}
use Rattle.span_algebra.proofs.LetterLaws.{letters-of-pairs}
use Rattle.span_algebra.proofs.FoundLaws.{short-steps}
use Rattle.span_algebra.proofs.joins.join_nfa.Goals as goal

pub ends_of-requires-clause-within : goal.ends_of-requires-clause-within
ends_of-requires-clause-within c = rw (c.deref.ensures.value) c.in_ok-explored.ensures.explored.found.within

pub ends_of-requires-clause-meeting : goal.ends_of-requires-clause-meeting
ends_of-requires-clause-meeting c =
    let va = c.args.left.names.now in let vb = c.args.right.names.now in
    let few : length (both_names va vb) ≤ 8 = omega (arith, c.count-variables.ensures.vars.few, ap length c.requires.names) in
    may-meet va vb (vars-apart va c.count-left_count.ensures.vars.distinct) (vars-apart vb c.count-right_count.ensures.vars.distinct) c.in_ok-meeting.meeting c.in_ok-meeting.ensures c.count-left_count.ensures.vars.few c.count-right_count.ensures.vars.few few

pub ends_of-requires-clause-short : goal.ends_of-requires-clause-short
ends_of-requires-clause-short c =
    let va = c.args.left.names.now in let vb = c.args.right.names.now in
    let apart : AreApart (both_names va vb) = subst (λ (l : List (List ℕ)). AreApart l) c.requires.names (vars-apart c.args.names.now c.count-variables.ensures.vars.distinct) in
    let few : length (both_names va vb) ≤ 8 = omega (arith, c.count-variables.ensures.vars.few, ap length c.requires.names) in
    short-steps c.args.left.dfa.now va c.args.right.dfa.now vb c.states-left_states.ensures.automaton c.states-right_states.ensures.automaton c.requires.left c.requires.right (vars-apart va c.count-left_count.ensures.vars.distinct) (vars-apart vb c.count-right_count.ensures.vars.distinct) apart few
    c.in_ok-meeting.meeting c.in_ok-meeting.ensures c.args.classes.now c.requires.of_left c.requires.of_right

pub from_edges-requires-clause-automaton : goal.from_edges-requires-clause-automaton
from_edges-requires-clause-automaton c =
    let va = c.args.left.names.now in let vb = c.args.right.names.now in
    let x = c.in_ok-explored.ensures.explored in
    let apart : AreApart (both_names va vb) = subst (λ (l : List (List ℕ)). AreApart l) c.requires.names (vars-apart c.args.names.now c.count-variables.ensures.vars.distinct) in
    let few : length (both_names va vb) ≤ 8 = omega (arith, c.count-variables.ensures.vars.few, ap length c.requires.names) in
    let ends = rw (c.deref.ensures.value) at c.in_ok-ends.ensures in
    join-automaton c.args.left.dfa.now va c.args.right.dfa.now vb c.states-left_states.ensures.automaton c.states-right_states.ensures.automaton c.requires.left c.requires.right (vars-apart va c.count-left_count.ensures.vars.distinct) (vars-apart vb c.count-right_count.ensures.vars.distinct) apart few
    c.in_ok-meeting.meeting c.in_ok-meeting.ensures c.args.classes.now c.requires.of_left c.requires.of_right c.args.most c.in_ok-explored.explored.pairs.items c.in_ok-explored.explored.edges c.in_ok-ends.ends.items _ c.count-variables.result
    x.found ends (omega (arith, c.len-states.ensures, c.in_ok-explored.explored.pairs.ok.0, x.found.few.few, c.requires.many)) (c.count-variables.ensures.count ∙ ap length c.requires.names)

pub from_edges-requires-clause-letters : goal.from_edges-requires-clause-letters
from_edges-requires-clause-letters c =
    rw (c.in_ok-letters.ensures) (letters-of-pairs c.args.most c.args.left.dfa.now c.args.right.dfa.now (join_size c.args.left.dfa.now) (JoinStep c.args.left.dfa.now c.args.left.names.now c.args.right.dfa.now c.args.right.names.now) c.args.classes.now
    _ c.in_ok-explored.explored.pairs.items c.in_ok-explored.explored.edges c.in_ok-explored.ensures.explored.found)

pub returns-clause-made : goal.returns-clause-made
returns-clause-made c =
    let va = c.args.left.names.now in let vb = c.args.right.names.now in
    let x = c.in_ok-explored.ensures.explored in
    let apart : AreApart (both_names va vb) = subst (λ (l : List (List ℕ)). AreApart l) c.requires.names (vars-apart c.args.names.now c.count-variables.ensures.vars.distinct) in
    let few : length (both_names va vb) ≤ 8 = omega (arith, c.count-variables.ensures.vars.few, ap length c.requires.names) in
    let ends = rw (c.deref.ensures.value) at c.in_ok-ends.ensures in
    join-same c.args.left.dfa.now va c.args.right.dfa.now vb (automaton_in c.from_edges.result) _ c.from_edges.ensures.same (join-nfa c.args.left.dfa.now va c.args.right.dfa.now vb c.states-left_states.ensures.automaton c.states-right_states.ensures.automaton c.requires.left c.requires.right (vars-apart va c.count-left_count.ensures.vars.distinct) (vars-apart vb c.count-right_count.ensures.vars.distinct) apart few
    c.in_ok-meeting.meeting c.in_ok-meeting.ensures c.args.classes.now c.requires.of_left c.requires.of_right c.args.most c.in_ok-explored.explored.pairs.items c.in_ok-explored.explored.edges c.in_ok-ends.ends.items _ c.count-variables.result
    x.found ends (omega (arith, c.len-states.ensures, c.in_ok-explored.explored.pairs.ok.0, x.found.few.few, c.requires.many)) (c.count-variables.ensures.count ∙ ap length c.requires.names))
