use Rattle.std.proofs.Common.{◌≡◌, map, slice_index_or, take}
use Rattle.marker_dfa.proofs.merging.renumbered_cell.Given as goal

abbrev pub invariant-loop-target : goal.invariant-loop-target
invariant-loop-target l = record {
  items : l.target-items ≡ l.cell.targets.items;
  mapped : l.targets.items ≡ map (λ t. slice_index_or l.numbers t 0) (take l.target-index l.cell.targets.items);
}
