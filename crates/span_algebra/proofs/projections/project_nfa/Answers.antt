use Rattle.marker_dfa.specs.Bundled.{automaton_in}
use Rattle.span_algebra.proofs.SameLaws.{project-same}
use Rattle.span_algebra.proofs.LetterLaws.{letters-of-one}
use Rattle.span_algebra.proofs.ProjectLaws.{project-made}
use Rattle.span_algebra.proofs.projections.project_nfa.Goals as goal

pub from_edges-requires-clause-automaton : goal.from_edges-requires-clause-automaton
from_edges-requires-clause-automaton c =
    let edges = rw (c.deref.ensures.value) at c.in_ok-push_edges.ensures in
    let ends = rw (c.deref.ensures.value) at c.in_ok-push_ends.ensures in
    (project-made c.args.source.now c.args.names.now c.args.keep.now c.in_ok-places.places.items c.args.classes.now c.states-states.result c.count-variables.result c.new-edges.result c.push_edges.new.edges c.new-ends.result.items c.push_ends.new.ends.items
    c.in_ok-places.ensures c.requires.classes c.states-states.ensures.automaton c.requires.names c.count-variables.ensures.vars.few c.states-states.ensures.value c.count-variables.ensures.count c.new-edges.ensures edges c.new-ends.ensures.items ends).0

pub from_edges-requires-clause-letters : goal.from_edges-requires-clause-letters
from_edges-requires-clause-letters c =
    let edges = rw (c.deref.ensures.value) at c.in_ok-push_edges.ensures in
    rw (c.in_ok-letters.ensures) (letters-of-one c.args.source.now c.in_ok-places.places.items 0 c.args.classes.now c.new-edges.result c.push_edges.new.edges c.new-edges.ensures edges)

pub returns-clause-made : goal.returns-clause-made
returns-clause-made c =
    let edges = rw (c.deref.ensures.value) at c.in_ok-push_edges.ensures in
    let ends = rw (c.deref.ensures.value) at c.in_ok-push_ends.ensures in
    project-same c.args.source.now c.args.names.now c.args.keep.now (automaton_in c.from_edges.result) _ c.from_edges.ensures.same ((project-made c.args.source.now c.args.names.now c.args.keep.now c.in_ok-places.places.items c.args.classes.now c.states-states.result c.count-variables.result c.new-edges.result c.push_edges.new.edges c.new-ends.result.items c.push_ends.new.ends.items
    c.in_ok-places.ensures c.requires.classes c.states-states.ensures.automaton c.requires.names c.count-variables.ensures.vars.few c.states-states.ensures.value c.count-variables.ensures.count c.new-edges.ensures edges c.new-ends.ensures.items ends).1)
