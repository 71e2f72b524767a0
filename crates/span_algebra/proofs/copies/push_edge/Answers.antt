use Rattle.std.proofs.Common.{◌≡◌, ◌<◌, ◌∙◌, Some, sym, arith}
use Rattle.marker_dfa.specs.Deterministic.{next_of, states_of}
use Rattle.span_algebra.proofs.EdgeLaws.{edge-by}
use Rattle.span_algebra.proofs.copies.push_edge.Goals as goal

pub overflow_add-copy : goal.overflow_add-copy
overflow_add-copy c =
    let is : next_of c.args.copy.dfa.now c.args.state c.args.mark c.args.class.now.first ≡ Some c.in-Some.next = sym c.next.ensures ∙ c.in-Some.is in
    let lt : c.in-Some.next < states_of c.args.copy.dfa.now = c.states-states.ensures.automaton.within _ _ _ _ is in
    omega (arith, lt, c.states-states.ensures.automaton.few_states, c.requires.copy.first)

pub returns-in_ok-push : goal.returns-in_ok-push
returns-in_ok-push c =
    let is : next_of c.args.copy.dfa.now c.args.state c.args.mark c.args.class.now.first ≡ Some c.in-Some.next = sym c.next.ensures ∙ c.in-Some.is in
    edge-by c.args.edges.now c.push.new.self c.args.copy.dfa.now c.args.copy.places.now c.args.from c.args.copy.base c.args.state c.args.class.now c.args.mark c.in-Some.next c.mark_at.result is c.mark_at.ensures.value c.in_ok-push.ensures
