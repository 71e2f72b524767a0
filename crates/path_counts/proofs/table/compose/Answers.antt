use Rattle.path_counts.specs.Counting.{IsCountTableOf}
use Rattle.marker_dfa.specs.Deterministic.{states_of}
use Rattle.path_counts.proofs.Meanings.{IsCountTable-composed}
use Rattle.path_counts.proofs.table.compose.Goals as goal

pub returns-clause-meaning : goal.returns-clause-meaning
returns-clause-meaning c = λ a s u auto l r.
    let made = c.in_ok-rows.ensures in
    let shape : IsCountTableOf (states_of a) c.in_ok-rows.rows = rw r.shape.states at made.shape in
    IsCountTable-composed a s u c.args.left.now c.args.right.now auto l r c.in_ok-rows.rows shape made.composed
