use Rattle.std.proofs.Common.{◌≡◌, ◌<◌, sym, subst, ◌∙◌, arith, inl, inr, length}
use Rattle.std.proofs.lemmas.Bool.{cases_lt}
use Rattle.state_tables.specs.Table.{row_at}
use Rattle.state_tables.specs.Coded.{list_of, table_of}
use Rattle.state_tables.proofs.ClassedTables.{rows-same, tables-differ}
use Rattle.state_tables.proofs.Collecting.{length-table, state-row}
use Rattle.state_tables.proofs.Members.{not-both}
use Rattle.state_tables.proofs.table.are_same.Goals as goal

pub returns-then-not-has_row_of : goal.returns-then-not-has_row_of
returns-then-not-has_row_of c =
    let p = c.loop-p.p in
    let cs = c.args.classes.now in
    let os = c.args.others.now in
    let lt : c.loop-p.p < length c.args.others.now = omega (arith, c.loop-p-test.true, c.if-classes-others.false) in
    sym (tables-differ (table_of cs (list_of c.args.rows.now).rows) (table_of os (list_of c.args.other_rows.now).rows) p (λ e.
    let yes = c.has_row_of.ensures.1 (sym (state-row cs (list_of c.args.rows.now).rows p c.loop-p-test.true) ∙ e ∙ state-row os (list_of c.args.other_rows.now).rows p lt) in
    let no = c.if-not-has_row_of.true in
    not-both c.has_row_of.result yes no))

pub loop-p-preserved : goal.loop-p-preserved
loop-p-preserved c = λ k lt. elim (cases_lt k c.loop-p.p) [
  | inl less ↦ c.loop-p.invariant k less
  | inr ge ↦
      let p = c.loop-p.p in
      let cs = c.args.classes.now in
      let os = c.args.others.now in
      let here : c.loop-p.p ≡ k = omega (arith, lt, ge) in
      let low : c.loop-p.p < length c.args.others.now = omega (arith, c.loop-p-test.true, c.if-classes-others.false) in
      subst (λ n. row_at (table_of c.args.classes.now (list_of c.args.rows.now).rows) n ≡ row_at (table_of c.args.others.now (list_of c.args.other_rows.now).rows) n) here
      (state-row cs (list_of c.args.rows.now).rows p c.loop-p-test.true ∙ c.has_row_of.ensures.0 c.if-not-has_row_of.false ∙ sym (state-row os (list_of c.args.other_rows.now).rows p low))
]

pub returns : goal.returns
returns c =
    let cs = c.args.classes.now in
    let os = c.args.others.now in
    let left : length (table_of c.args.classes.now (list_of c.args.rows.now).rows) ≡ length c.args.classes.now = length-table cs (list_of c.args.rows.now).rows in
    let right : length (table_of c.args.others.now (list_of c.args.other_rows.now).rows) ≡ length c.args.others.now = length-table os (list_of c.args.other_rows.now).rows in
    sym (rows-same (table_of cs (list_of c.args.rows.now).rows) (table_of os (list_of c.args.other_rows.now).rows) (omega (arith, left, right, c.if-classes-others.false))
    (λ k lt. c.loop-p.invariant k (omega (arith, lt, left, c.loop-p-test.false))))
