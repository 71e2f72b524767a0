use Rattle.std.proofs.Common.{◌≡◌, ◌++◌, length, rules}
use Rattle.path_counts.specs.declared.row_list.Row.{Row}
use Rattle.path_counts.proofs.Placed.{rows-pushed}
use Rattle.path_counts.proofs.row_list.push_row.Goals as goal

pub returns-clause-row : goal.returns-clause-row
returns-clause-row c =
    let rows = c.args.rows.now.items in
    let counts = c.args.all.now.items in
    let row : Row = record { unmarked = c.args.unmarked; start = c.len-start.result; end = c.len-end.result } in
    let start : row.start ≡ length counts = search rules in
    let end : row.end ≡ length (counts ++ c.args.counts.now) = search rules in
    rw (c.in_ok-push.ensures.items, c.in_ok-append.ensures.items) (rows-pushed rows counts c.args.counts.now row c.requires start end)
