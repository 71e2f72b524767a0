-- The Count of a tree is the number of its automaton's states, and the automata of formulas.
use Rattle.std.proofs.Common.{ℕ, suc, refl, subst, ◌∙◌}
use Rattle.span_types.specs.FormulaTree.{FormulaTree, sets}
use Rattle.span_types.specs.Query.{Leaf, Union, Join, Project}
use Rattle.formula_law.specs.Accepts.{Steps}
use Rattle.formula_law.specs.Positions.{IsEnd}
use Rattle.marker_nfa.specs.Automaton.{Automaton}
use Rattle.marker_nfa.specs.Occurrences.{IsPositionAutomaton}
use Rattle.marker_nfa.proofs.Accepting.{step_from, step_to}
use Rattle.marker_dfa.proofs.Tracks.{above_states, states_above}
use Rattle.span_algebra.specs.Making.{HasParts}
use Rattle.span_algebra.specs.TreeLaws.{CountIsStates, LeafAutomata}
use Rattle.span_algebra.proofs.SetLaws.{automaton-moved, count-moved, parts-matched, turned}
use Rattle.span_algebra.proofs.TreeAutomata.{counts-by-any}

pub count-is-states : CountIsStates
count-is-states n (Leaf f ns) d x = (states_above _ _ _ d x.automaton n, above_states _ _ _ d x.automaton n)
count-is-states n (Union l r) d x =
    let any = counts-by-any.union n l r x.left x.right x.left_is x.right_is in
    ((λ c. states_above _ _ _ d x.holds.automaton n (any.0 c)), (λ lt. any.1 (above_states _ _ _ d x.holds.automaton n lt)))
count-is-states n (Join l r) d x =
    let any = counts-by-any.join n l r x.left x.right x.left_is x.right_is x.holds.0 in
    ((λ c. states_above _ _ _ d x.holds.1.automaton n (any.0 c)), (λ lt. any.1 (above_states _ _ _ d x.holds.1.automaton n lt)))
count-is-states n (Project q keep) d x =
    let any = counts-by-any.project n q keep x.source x.source_is in
    ((λ c. states_above _ _ _ d x.holds.automaton n (any.0 c)), (λ lt. any.1 (above_states _ _ _ d x.holds.automaton n lt)))

-- a formula's position automaton has the formula's occurrences, steps and ends
pub position-parts : (f : FormulaTree) (a : Automaton) → IsPositionAutomaton f a → HasParts (suc (sets f)) (Steps f) (IsEnd f) a
position-parts f a is = record {
  states = is.states;
  step_to = step_to f a is;
  step_from = step_from f a is;
  end_to = λ o m e. (is.ends (record { state = o; mark = m })).0 e;
  end_from = λ o m e. (is.ends (record { state = o; mark = m })).1 e;
}

pub leaf-automata : LeafAutomata
leaf-automata = record {
  automaton = λ f ns a d count is stands same. record { variables = same.variables ∙ is.variables ∙ count; automaton = automaton-moved (parts-matched (position-parts f a is)) d stands };
  count = λ most f ns a is. (count-moved (parts-matched (position-parts f a is)) most, count-moved (turned (parts-matched (position-parts f a is))) most);
}
