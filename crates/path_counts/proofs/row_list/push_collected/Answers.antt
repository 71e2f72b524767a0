use Rattle.std.proofs.Common.{◌≡◌, ◌++◌, length, ap, refl, ◌∙◌, rules}
use Rattle.path_counts.specs.declared.row_list.Row.{Row}
use Rattle.path_counts.proofs.Placed.{rows-pushed}
use Rattle.path_counts.proofs.row_list.push_collected.Goals as goal

pub returns-clause-row : goal.returns-clause-row
returns-clause-row c =
    let rows = c.args.rows.now.items in
    let counts = c.args.all.now.items in
    let added = c.in_ok-take_counts.ensures.counts in
    let row : Row = record { unmarked = c.args.unmarked; start = c.len-start.result; end = c.len-end.result } in
    let start : row.start ≡ length counts = search rules in
    let all : row.end ≡ length c.take_counts.new.counts.items = search rules in
    let end : row.end ≡ length (counts ++ added.more) = all ∙ ap length added.counts in
    record {
      row = record { unmarked = c.args.unmarked; counts = added.more };
      rows = rw (c.in_ok-push.ensures.items, added.counts) (rows-pushed rows counts added.more row c.requires.within start end);
      holds = (refl, added.hold);
    }
