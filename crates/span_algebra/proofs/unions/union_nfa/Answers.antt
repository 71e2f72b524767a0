use Rattle.std.proofs.Common.{◌+◌, arith}
use Rattle.marker_dfa.specs.Bundled.{automaton_in}
use Rattle.span_algebra.proofs.SameLaws.{union-same}
use Rattle.span_algebra.proofs.LetterLaws.{letters-of-two}
use Rattle.span_algebra.proofs.PartLaws.{union-made}
use Rattle.span_algebra.proofs.unions.union_nfa.Goals as goal

pub from_edges-requires-clause-automaton : goal.from_edges-requires-clause-automaton
from_edges-requires-clause-automaton c =
    let el = rw (c.deref.ensures.value) at c.in_ok-push_edges.ensures in
    let er = rw (c.deref-2.ensures.value) at c.in_ok-push_edges-2.ensures in
    let fl = rw (c.deref.ensures.value) at c.in_ok-push_ends.ensures in
    let fr = rw (c.deref-2.ensures.value) at c.in_ok-push_ends-2.ensures in
    (union-made c.args.left.dfa.now c.args.left.names.now c.args.right.dfa.now c.args.right.names.now c.args.names.now c.in_ok-left_places.left_places.items c.in_ok-right_places.right_places.items c.args.classes.now (1 + c.states-left_states.result) (1 + c.states-left_states.result + c.states-right_states.result) c.count-variables.result c.new-edges.result c.push_edges.new.edges c.push_edges-2.new.edges c.new-ends.result.items c.push_ends.new.ends.items c.push_ends-2.new.ends.items
    c.requires.names c.in_ok-left_places.ensures c.in_ok-right_places.ensures c.requires.of_left c.requires.of_right c.states-left_states.ensures.automaton c.states-right_states.ensures.automaton c.requires.left c.requires.right (omega (arith, c.states-left_states.ensures.value)) (omega (arith, c.states-right_states.ensures.value)) c.count-variables.ensures.count c.count-variables.ensures.vars.few
    c.new-edges.ensures el er c.new-ends.ensures.items fl fr).0

pub from_edges-requires-clause-letters : goal.from_edges-requires-clause-letters
from_edges-requires-clause-letters c =
    let el = rw (c.deref.ensures.value) at c.in_ok-push_edges.ensures in
    let er = rw (c.deref-2.ensures.value) at c.in_ok-push_edges-2.ensures in
    rw (c.in_ok-letters.ensures) (letters-of-two c.args.left.dfa.now c.args.right.dfa.now c.in_ok-left_places.left_places.items c.in_ok-right_places.right_places.items (1 + c.states-left_states.result) c.args.classes.now c.new-edges.result c.push_edges.new.edges c.push_edges-2.new.edges c.new-edges.ensures el er)

pub returns-clause-made : goal.returns-clause-made
returns-clause-made c =
    let el = rw (c.deref.ensures.value) at c.in_ok-push_edges.ensures in
    let er = rw (c.deref-2.ensures.value) at c.in_ok-push_edges-2.ensures in
    let fl = rw (c.deref.ensures.value) at c.in_ok-push_ends.ensures in
    let fr = rw (c.deref-2.ensures.value) at c.in_ok-push_ends-2.ensures in
    union-same c.args.left.dfa.now c.args.left.names.now c.args.right.dfa.now c.args.right.names.now (automaton_in c.from_edges.result) _ c.from_edges.ensures.same ((union-made c.args.left.dfa.now c.args.left.names.now c.args.right.dfa.now c.args.right.names.now c.args.names.now c.in_ok-left_places.left_places.items c.in_ok-right_places.right_places.items c.args.classes.now (1 + c.states-left_states.result) (1 + c.states-left_states.result + c.states-right_states.result) c.count-variables.result c.new-edges.result c.push_edges.new.edges c.push_edges-2.new.edges c.new-ends.result.items c.push_ends.new.ends.items c.push_ends-2.new.ends.items
    c.requires.names c.in_ok-left_places.ensures c.in_ok-right_places.ensures c.requires.of_left c.requires.of_right c.states-left_states.ensures.automaton c.states-right_states.ensures.automaton c.requires.left c.requires.right (omega (arith, c.states-left_states.ensures.value)) (omega (arith, c.states-right_states.ensures.value)) c.count-variables.ensures.count c.count-variables.ensures.vars.few
    c.new-edges.ensures el er c.new-ends.ensures.items fl fr).1)
