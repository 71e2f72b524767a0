use Rattle.marker_dfa.specs.Bundled.{automaton_in}
use Rattle.marker_dfa.proofs.Same.{accepts-same, determinized-same, ok-map, refused-map, too-many-same, turned}
use Rattle.marker_dfa.proofs.determinise_within.Goals as goal

pub returns-clause-states : goal.returns-clause-states
returns-clause-states c = ok-map c.determinise_bundled.result _ _ (determinized-same (automaton_in c.in_ok-bundled.bundled) c.args.nfa.now c.in_ok-bundled.ensures.same) c.determinise_bundled.ensures.states

pub returns-clause-accepts : goal.returns-clause-accepts
returns-clause-accepts c = ok-map c.determinise_bundled.result _ _ (accepts-same (automaton_in c.in_ok-bundled.bundled) c.args.nfa.now c.in_ok-bundled.ensures.same) c.determinise_bundled.ensures.accepts

pub returns-clause-few : goal.returns-clause-few
returns-clause-few c = ok-map c.determinise_bundled.result _ _ (λ d none many. none (too-many-same c.args.most c.args.nfa.now (automaton_in c.in_ok-bundled.bundled) (turned (automaton_in c.in_ok-bundled.bundled) c.args.nfa.now c.in_ok-bundled.ensures.same) many)) c.determinise_bundled.ensures.few

pub returns-clause-too_many : goal.returns-clause-too_many
returns-clause-too_many c = refused-map c.determinise_bundled.result _ _ (too-many-same c.args.most (automaton_in c.in_ok-bundled.bundled) c.args.nfa.now c.in_ok-bundled.ensures.same) c.determinise_bundled.ensures.too_many
