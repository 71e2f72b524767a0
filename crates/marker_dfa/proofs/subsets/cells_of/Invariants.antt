use Rattle.marker_dfa.specs.Bundled.{automaton_in}
use Rattle.marker_dfa.specs.Making.{bytes_of}
use Rattle.marker_dfa.proofs.RowsGrow.{CellsSoFar}
use Rattle.marker_dfa.proofs.subsets.cells_of.Given as goal

abbrev pub invariant-loop-readers : goal.invariant-loop-readers
invariant-loop-readers l = CellsSoFar l.plan.most (automaton_in l.nfa) l.exits.from (bytes_of l.plan.by_byte.items) l.readers-index l.fn.found.sets.items l.found.sets.items l.cells.items
