use Rattle.std.proofs.Common.{◌≡◌}
use Rattle.marker_dfa.proofs.Renumbering.{AreMade, IsRowOf}
use Rattle.marker_dfa.proofs.merging.rows_under.Given as goal

abbrev pub invariant-loop-kept : goal.invariant-loop-kept
invariant-loop-kept l = record {
  items : l.kept-items ≡ l.numbering.kept.items;
  made : AreMade (IsRowOf l.numbering.numbers.items l.dfa.rows) l.numbering.kept.items l.kept-index l.rows.items;
}
