use Rattle.std.proofs.Common.{arith, rules, ap, length}
use Rattle.marker_dfa.specs.Merging.{IsCellUnder}
use Rattle.marker_dfa.proofs.Renumbering.{item_at, made_more}
use Rattle.marker_dfa.proofs.merging.renumbered_row.Goals as goal

pub loop-cell-preserved : goal.loop-cell-preserved
loop-cell-preserved c =
    let items = c.loop-cell.invariant.items in
    let cells = c.args.row.now.cells.items in
    let at = item_at _ cells c.loop-cell.cell-index c.cell-item.result items c.loop-cell-test.true c.cell-item.is in
    record { items = items; made = rw c.in_ok-push.ensures.items (made_more (IsCellUnder c.args.numbers.now) cells c.loop-cell.cell-index _ _ _ at c.in_ok-renumbered_cell.ensures c.loop-cell.invariant.made) }

pub returns : goal.returns
returns c = record {
  ends = search rules;
  even = omega (arith, c.loop-cell.invariant.made.size, c.loop-cell-test.false, ap length c.loop-cell.invariant.items, c.loop-cell.auto.cell-index-end);
  cells = c.loop-cell.invariant.made.each;
}
