use Rattle.std.proofs.Common.{◌≡◌, List, Bool, Contains, sym, subst, ◌∙◌}
use Rattle.marker_dfa.specs.Bundled.{HaveSameParts, automaton_in}
use Rattle.marker_dfa.proofs.Same.{automaton-same, composed, turned}
use Rattle.marker_dfa.proofs.bundled.bundled.Goals as goal
use Rattle.marker_dfa.proofs.bundled.bundled.Goals.{In_ok-letters}

-- the parts that are gathered are those of the automaton
gathered : (c : In_ok-letters) → HaveSameParts (record { states = c.states-states.result; variables = c.variables-variables.result; edges = c.in_ok-edges.edges; ends = c.in_ok-ends.ends.items }) c.args.nfa.now
gathered c = record {
  states = c.states-states.ensures.value;
  variables = c.variables-variables.ensures.value;
  edges = c.in_ok-edges.ensures;
  ends = c.in_ok-ends.ensures.items_if_clones_equal (λ x y e. e) ∙ c.ends.ensures;
}

pub from_edges-requires-clause-automaton : goal.from_edges-requires-clause-automaton
from_edges-requires-clause-automaton c = automaton-same c.args.nfa.now _ (turned _ c.args.nfa.now (gathered (goal.at.from_edges-requires-clause-automaton c).In_ok-letters)) c.states-states.ensures.automaton

pub from_edges-requires-clause-letters : goal.from_edges-requires-clause-letters
from_edges-requires-clause-letters c e k =
    let items : c.in_ok-letters.letters.items ≡ c.letters.result.now = c.in_ok-letters.ensures.items_if_clones_equal (λ x y e. e) in
    subst (λ (l : List (List Bool)). Contains l e.letters) (sym items) (c.letters.ensures e ((c.in_ok-edges.ensures e).0 k))

pub returns-clause-same : goal.returns-clause-same
returns-clause-same c = composed (automaton_in c.from_edges.result) _ c.args.nfa.now c.from_edges.ensures.same (gathered (goal.at.returns-clause-same c).In_ok-letters)
