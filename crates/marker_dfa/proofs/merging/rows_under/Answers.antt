use Rattle.std.proofs.Common.{◌≡◌, ◌<◌, ℕ, List, Some, arith, ap, subst, length, slice_get, get_or}
use Rattle.marker_dfa.specs.Merging.{IsRowUnder}
use Rattle.marker_dfa.proofs.Renumbering.{IsRowOf, item_at, number_at, made_more, row_of_state, rows_end}
use Rattle.marker_dfa.proofs.merging.rows_under.Goals as goal

pub bounds-rows-kept : goal.bounds-rows-kept
bounds-rows-kept c =
    let at = number_at _ c.args.numbering.now.kept.items c.loop-kept.kept-index c.loop-kept.invariant.items c.loop-kept-test.true in
    omega (arith, c.requires c.loop-kept.kept-index _ at, ap length c.rows.ensures.value)

pub loop-kept-preserved : goal.loop-kept-preserved
loop-kept-preserved c =
    let items = c.loop-kept.invariant.items in
    let kept = c.args.numbering.now.kept.items in
    let numbers = c.args.numbering.now.numbers.items in
    let k = c.loop-kept.kept-index in
    let q = get_or c.deref-kept-items.result.now k 0 in
    let at = number_at _ kept k items c.loop-kept-test.true in
    let lt : q < length c.rows.result.now = omega (arith, c.requires k q at, ap length c.rows.ensures.value) in
    let there : slice_get c.args.dfa.now.rows q ≡ Some c.index-rows-kept.result = item_at _ c.args.dfa.now.rows q c.index-rows-kept.result c.rows.ensures.value lt c.index-rows-kept.is in
    let made = subst (λ (l : List ℕ). IsRowUnder l c.index-rows-kept.result c.in_ok-row.row) c.deref.ensures.value c.in_ok-row.ensures in
    record { items = items; made = rw c.in_ok-push.ensures.items (made_more (IsRowOf numbers c.args.dfa.now.rows) kept k _ q _ at (row_of_state numbers c.args.dfa.now.rows q _ _ there made) c.loop-kept.invariant.made) }

pub returns : goal.returns
returns c =
    rows_end c.args.numbering.now.kept.items _ _ _ c.loop-kept.kept-index (omega (arith, c.loop-kept-test.false, ap length c.loop-kept.invariant.items, c.loop-kept.auto.kept-index-end)) c.loop-kept.invariant.made
