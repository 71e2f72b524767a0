use Rattle.std.proofs.Common.{◌≡◌, vec_capacity}
use Rattle.distinct_items.proofs.Moving.{AreMoved}
use Rattle.state_tables.proofs.renumbering.renumber.Given as goal

abbrev pub invariant-loop-index : goal.invariant-loop-index
invariant-loop-index l = record {
  moved : AreMoved l.initial.numbers.items l.moves 0 l.index l.numbers.items l.kept;
  capacity : vec_capacity l.numbers ≡ vec_capacity l.initial.numbers;
}
