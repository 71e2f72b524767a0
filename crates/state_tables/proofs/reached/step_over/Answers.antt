use Rattle.std.proofs.Common.{◌≡◌, ◌-◌, ap, sym, ◌∙◌, arith, get_or, Some, add-one}
use Rattle.marker_dfa.specs.Deterministic.{and_then}
use Rattle.state_tables.specs.Table.{marked_from, row_at, unmarked_of}
use Rattle.state_tables.specs.Coded.{list_of, set_beyond, step_of, table_of}
use Rattle.state_tables.proofs.CodedRows.{step_of-code_of}
use Rattle.state_tables.proofs.Collecting.{state-row, step-some}
use Rattle.state_tables.proofs.reached.step_over.Goals as goal

pub bounds-classes-code : goal.bounds-classes-code
bounds-classes-code c = c.requires.within (c.args.code - 1) (step-some c.args.code c.if-code-eq0.false)

pub code-requires : goal.code-requires
code-requires c = c.requires.states.classed (c.args.code - 1) (c.requires.within (c.args.code - 1) (step-some c.args.code c.if-code-eq0.false))

pub set_of-requires : goal.set_of-requires
set_of-requires c = c.requires.states.classed (c.args.code - 1) (c.requires.within (c.args.code - 1) (step-some c.args.code c.if-code-eq0.false))

pub overflow_add-result : goal.overflow_add-result
overflow_add-result c = omega (arith, c.set_of.ensures.within, c.requires.few)

pub returns-clause-code : goal.returns-clause-code
returns-clause-code c =
    let q = c.args.code - 1 in
    let rows = (list_of c.args.rows.now).rows in
    let t = table_of c.args.classes.now (list_of c.args.rows.now).rows in
    let some : step_of c.args.code ≡ Some (c.args.code - 1) = step-some c.args.code c.if-code-eq0.false in
    ap step_of c.code.ensures ∙ step_of-code_of (row_at rows (get_or c.args.classes.now q 0)).unmarked
    ∙ ap (λ r. r.unmarked) (sym (state-row c.args.classes.now rows q (c.requires.within q some)))
    ∙ ap (λ o. and_then o (unmarked_of t)) (sym some)

pub returns-clause-marked : goal.returns-clause-marked
returns-clause-marked c =
    let q = c.args.code - 1 in
    let rows = (list_of c.args.rows.now).rows in
    let t = table_of c.args.classes.now (list_of c.args.rows.now).rows in
    let some : step_of c.args.code ≡ Some (c.args.code - 1) = step-some c.args.code c.if-code-eq0.false in
    ap (set_beyond c.args.rows.now.sets) (add-one c.set_of.result) ∙ c.set_of.ensures.set
    ∙ ap (λ r. r.marked) (sym (state-row c.args.classes.now rows q (c.requires.within q some)))
    ∙ ap (marked_from t) (sym some)
