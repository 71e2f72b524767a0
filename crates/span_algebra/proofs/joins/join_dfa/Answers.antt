use Rattle.std.proofs.Common.{◌≤◌, ◌∙◌, length, map, ap, arith}
use Rattle.marker_dfa.specs.Bundled.{automaton_in}
use Rattle.span_algebra.specs.Pairs.{number_of}
use Rattle.span_algebra.specs.Renaming.{both_names}
use Rattle.span_algebra.proofs.EdgeLaws.{ok-map}
use Rattle.span_algebra.proofs.RefusalLaws.{refused-by}
use Rattle.span_algebra.proofs.SetLaws.{automaton-moved, count-moved, numbered-matched, turned}
use Rattle.span_algebra.proofs.JoinLaws.{gives-join}
use Rattle.span_algebra.proofs.JointLaws.{vars-apart}
use Rattle.span_algebra.proofs.joins.join_dfa.Goals as goal

pub returns-clause-automaton : goal.returns-clause-automaton
returns-clause-automaton c =
    ok-map c.determined.result _ _ (automaton-moved (numbered-matched c.in_ok-nfa.ensures.made.parts)) c.determined.ensures.states

pub returns-clause-answers : goal.returns-clause-answers
returns-clause-answers c = let a = c.args.left.dfa.now in let va = c.args.left.names.now in let b = c.args.right.dfa.now in let vb = c.args.right.names.now in
    ok-map c.determined.result _ _ (λ d h. gives-join a va b vb c.states-left_states.ensures.automaton c.states-right_states.ensures.automaton c.requires.left c.requires.right (vars-apart va c.count-left_count.ensures.vars.distinct) (vars-apart vb c.count-right_count.ensures.vars.distinct) (map number_of c.in_ok-nfa.ensures.made.pairs) (automaton_in c.in_ok-nfa.nfa) c.in_ok-nfa.ensures.made.parts d (h.variables ∙ c.in_ok-nfa.ensures.made.variables) h) c.determined.ensures.accepts

pub returns-clause-few : goal.returns-clause-few
returns-clause-few c =
    ok-map c.determined.result _ _ (λ d h k. h (count-moved (turned (numbered-matched c.in_ok-nfa.ensures.made.parts)) c.args.most k)) c.determined.ensures.few

pub returns-clause-refused : goal.returns-clause-refused
returns-clause-refused c = let va = c.args.left.names.now in let vb = c.args.right.names.now in
    let few : length (both_names va vb) ≤ 8 = omega (arith, c.count-count.ensures.vars.few, ap length c.requires.names) in
    refused-by c.determined.result _ _ _ few (count-moved (numbered-matched c.in_ok-nfa.ensures.made.parts) c.args.most) c.determined.ensures.refused
