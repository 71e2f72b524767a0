use Rattle.std.proofs.Common.{◌≡◌, ◌+◌, ◌*◌, ◌-◌, ◌≤◌, length}
use Rattle.span_types.specs.Fibonacci.{looks_limit}
use Rattle.span_types.specs.Places.{IsSpanOr}
use Rattle.span_replace.specs.Search.{search_cost}
use Rattle.span_replace.proofs.Picks.{Picks}
use Rattle.span_replace.proofs.choosing.all_chosen.Given as goal

abbrev pub invariant-loop-next : goal.invariant-loop-next
invariant-loop-next g l = record {
  automaton : l.answers.automaton ≡ l.fn.answers.automaton;
  text : l.answers.text ≡ l.fn.answers.text;
  few : length l.spans.items ≤ 32768;
  index : IsSpanOr l.next;
  so_far : Picks l.fn.choice l.fn.answers.automaton l.fn.answers.text l.spans.items l.next;
  paid : l.looks ≤ l.fn.looks + ((search_cost l.fn.choice + 2) * length l.spans.items + search_cost l.fn.choice) * looks_limit 1 (length l.fn.answers.text);
}

abbrev pub decreases-loop-next : goal.decreases-loop-next
decreases-loop-next g l = 32768 - length l.spans.items
