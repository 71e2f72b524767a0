use Rattle.std.proofs.Common.{◌≡◌, ◌≤◌, ◌+◌, ◌*◌, length}
use Rattle.span_types.specs.Fibonacci.{looks_limit}
use Rattle.list_all.proofs.Taken.{AreTaken}
use Rattle.list_all.proofs.single.first_answers.Given as goal

abbrev pub invariant-loop-given : goal.invariant-loop-given
invariant-loop-given g l = record {
  taken : AreTaken l.fn.answers l.answers l.tuples.items;
  count : length l.tuples.items ≡ l._given;
  paid : l.looks ≤ l.fn.looks + length l.tuples.items * looks_limit l.fn.answers.automaton.variables (length l.fn.answers.text);
}
