use Rattle.std.proofs.Common.{◌/◌, ◌%◌, ap, sym, ◌∙◌, arith}
use Rattle.std.specs.Int.{bit_at}
use Rattle.state_tables.specs.Coded.{list_of, table_of}
use Rattle.state_tables.specs.Table.{row_at}
use Rattle.state_tables.proofs.Branches.{row-bit-set}
use Rattle.state_tables.proofs.Collecting.{state-row}
use Rattle.state_tables.proofs.table.rows_bit.Goals as goal

pub returns-then-index-lt-SET_BITS : goal.returns-then-index-lt-SET_BITS
returns-then-index-lt-SET_BITS c =
    let state = c.args.index / 1040 in
    let index = c.args.index % 1040 in
    let t = table_of c.args.classes.now (list_of c.args.rows.now).rows in
    c.bit.ensures ∙ ap (λ n. bit_at n index) (c.marked.ensures.set ∙ ap (λ r. r.marked) (sym (state-row c.args.classes.now (list_of c.args.rows.now).rows state (omega (arith, c.if-state-classes.false)))))
    ∙ sym (row-bit-set (row_at t state) index c.if-index-lt-SET_BITS.true)
