use Rattle.std.proofs.Common.{◌≡◌}
use Rattle.marker_dfa.specs.Merging.{IsCellUnder}
use Rattle.marker_dfa.proofs.Renumbering.{AreMade}
use Rattle.marker_dfa.proofs.merging.renumbered_row.Given as goal

abbrev pub invariant-loop-cell : goal.invariant-loop-cell
invariant-loop-cell l = record {
  items : l.cell-items ≡ l.row.cells.items;
  made : AreMade (IsCellUnder l.numbers) l.row.cells.items l.cell-index l.cells.items;
}
