use Rattle.span_algebra.proofs.TreeRows.{tree-rows}
use Rattle.span_algebra.proofs.law.tree_rows.Goals as goal

pub returns : goal.returns
returns c = tree-rows
