use Rattle.std.proofs.Common.{vec_len, ◌-◌}
use Rattle.marker_dfa.specs.Bundled.{automaton_in}
use Rattle.marker_dfa.specs.Making.{AreRows}
use Rattle.marker_dfa.proofs.subsets.rows_of.Given as goal

abbrev pub invariant-rows : goal.invariant-rows
invariant-rows l = AreRows l.most (automaton_in l.nfa) l.found.sets.items l.bytes l.rows.items

abbrev pub decreases-rows : goal.decreases-rows
decreases-rows l = l.most - vec_len l.rows
