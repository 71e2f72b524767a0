use Rattle.marker_dfa.specs.Bundled.{automaton_in}
use Rattle.marker_dfa.proofs.Growing.{Cells}
use Rattle.marker_dfa.proofs.Leaving.{marks_of}
use Rattle.marker_dfa.proofs.subsets.cell_of.Given as goal

abbrev pub invariant-loop-step : goal.invariant-loop-step
invariant-loop-step l = Cells l.plan.most (automaton_in l.nfa) (marks_of l.step-items) l.exits.from l.readers.byte l.step-index l.fn.found.sets.items l.found.sets.items l.cell.marks.items l.cell.targets.items
