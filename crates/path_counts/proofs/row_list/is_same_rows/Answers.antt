use Rattle.std.proofs.Common.{◌≡◌, length, arith, ext_get_or, rules}
use Rattle.path_counts.specs.Counting.{no_row}
use Rattle.path_counts.proofs.row_list.is_same_rows.Goals as goal

pub returns : goal.returns
returns c =
    let long : length c.args.rows.now ≡ length c.args.others.now = omega (arith, c.len.ensures, c.len-2.ensures, c.if-len.false) in
    ((λ yes. ext_get_or no_row c.args.rows.now c.args.others.now long (λ i lt. c.loop-p.invariant i (omega (arith, lt, c.len-p-end.ensures, c.loop-p-test.false)))), (λ same. search rules))
