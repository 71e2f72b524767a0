use Rattle.query_commands.proofs.Names.{AreAnswersOf, IsAfter, length, List, looks_limit, outlet, Tuple, ◌≡◌}
use Rattle.query_commands.proofs.ListLemmas.{KeepsInvariant, Keeps}
use Rattle.query_commands.proofs.listing.write_page.Given as goal

abbrev pub invariant-loop-tuple : goal.invariant-loop-tuple
invariant-loop-tuple g l = record {
  kept : Keeps l.fn.answers l.answers;
  so_far : (all rest : List Tuple) → AreAnswersOf l.fn.answers.automaton l.fn.answers.text all → IsAfter all l.fn.answers.after rest
      → KeepsInvariant (outlet (g.K.Sink.written l.fn.out) (g.K.Sink.faults l.fn.out) (g.K.Sink.wants l.fn.out)) (outlet (g.K.Sink.written l.out) (g.K.Sink.faults l.out) (g.K.Sink.wants l.out))
      l.vars l.limit rest all l.answers.after l.left l.fn.looks l.looks (looks_limit l.fn.answers.automaton.variables (length l.fn.answers.text));
  wants : g.K.Sink.wants l.out ≡ g.K.Sink.wants l.fn.out;
}

abbrev pub decreases-loop-tuple : goal.decreases-loop-tuple
decreases-loop-tuple g l = l.left
