use Rattle.std.proofs.Common.{◌∙◌}
use Rattle.marker_dfa.specs.Bundled.{automaton_in}
use Rattle.span_algebra.proofs.EdgeLaws.{ok-map}
use Rattle.span_algebra.proofs.RefusalLaws.{refused-by}
use Rattle.span_algebra.proofs.SetLaws.{automaton-moved, count-moved, parts-matched, turned}
use Rattle.span_algebra.proofs.ProjectLaws.{gives-projection}
use Rattle.span_algebra.proofs.projections.project_within.Goals as goal

pub returns-clause-automaton : goal.returns-clause-automaton
returns-clause-automaton c =
    ok-map c.determined.result _ _ (automaton-moved (parts-matched c.in_ok-nfa.ensures.made.parts)) c.determined.ensures.states

pub returns-clause-answers : goal.returns-clause-answers
returns-clause-answers c =
    ok-map c.determined.result _ _ (λ d h. gives-projection c.args.source.now c.args.names.now c.args.keep.now c.states-states.ensures.automaton c.requires.names c.count-variables.ensures.vars.few (automaton_in c.in_ok-nfa.nfa) c.in_ok-nfa.ensures.made.parts d (h.variables ∙ c.in_ok-nfa.ensures.made.variables) h) c.determined.ensures.accepts

pub returns-clause-few : goal.returns-clause-few
returns-clause-few c =
    ok-map c.determined.result _ _ (λ d h k. h (count-moved (turned (parts-matched c.in_ok-nfa.ensures.made.parts)) c.args.most k)) c.determined.ensures.few

pub returns-clause-refused : goal.returns-clause-refused
returns-clause-refused c =
    refused-by c.determined.result _ _ _ c.count-variables.ensures.vars.few (count-moved (parts-matched c.in_ok-nfa.ensures.made.parts) c.args.most) c.determined.ensures.refused
