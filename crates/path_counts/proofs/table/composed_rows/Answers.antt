use Rattle.std.proofs.Common.{◌≡◌, ℕ, List, Option, length, arith, ap, subst, ◌∙◌}
use Rattle.path_counts.specs.declared.count.Count.{Count}
use Rattle.path_counts.specs.Counting.{CountRow, row_at, unmarked_at}
use Rattle.path_counts.specs.Pushed.{IsComposedWithin}
use Rattle.path_counts.proofs.Rows.{pushed-length, rows-push, shape-of}
use Rattle.path_counts.proofs.table.composed_rows.Goals as goal

pub loop-p-preserved : goal.loop-p-preserved
loop-p-preserved c =
    let before = c.loop-p.invariant in
    let rows = c.loop-p.rows in
    let left = c.args.left.now in
    let right = c.args.right.now in
    let p = c.loop-p.p in
    let pushed = c.in_ok-push_composed.ensures.row in
    let make : Option ℕ → List Count → CountRow = λ o cs. record { unmarked = o; counts = cs } in
    let same : make c.unmarked.result c.counts.result.now ≡ row_at left p =
    ap (λ o. make o c.counts.result.now) c.unmarked.ensures.value ∙ ap (make (unmarked_at left p)) c.counts.ensures.value in
    rw pushed.rows (record {
      long = omega (arith, pushed-length rows pushed.row, before.long);
      sums = c.push_composed.auto.sums ∙ before.sums;
      clear = c.in_ok-push_composed.ensures.clear;
      rows = rows-push (λ k r. IsComposedWithin right (row_at left k) r) rows p pushed.row before.long before.rows (subst (λ (r : CountRow). IsComposedWithin right r pushed.row) same pushed.holds);
    })

pub returns-clause-shape : goal.returns-clause-shape
returns-clause-shape c =
    let done = c.loop-p.invariant in
    let right = c.args.right.now in
    let all : c.loop-p.p ≡ length right = omega (arith, c.states-states.ensures.value, c.loop-p-test.false, c.loop-p.auto.p-end) in
    shape-of (length right) c.loop-p.rows (done.long ∙ all) c.states-states.ensures.shape.few
    (λ p lt. (done.rows p (omega (arith, lt, all))).unmarked) (λ p lt. (done.rows p (omega (arith, lt, all))).counts)
