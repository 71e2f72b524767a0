use Rattle.count_tables.proofs.Growing.{entries-extend, entries-note}
use Rattle.count_tables.proofs.growth.keep_composed.Goals as goal

pub returns-in_err-number-clause-entries : goal.returns-in_err-number-clause-entries
returns-in_err-number-clause-entries c = entries-extend c.args.kept.now c.keep.new.kept c.args.memo.now c.keep.ensures.extends c.requires.entries

pub returns-clause-entries : goal.returns-clause-entries
returns-clause-entries c =
    let old = c.args.kept.now in
    let new = c.keep.new.kept in
    let grown = c.keep.ensures.extends in
    let number = c.in_ok-number.ensures.number in
    entries-note new c.args.memo.now c.note.new.self ((c.args.left, c.args.right), c.in_ok-number.number) (entries-extend old new c.args.memo.now grown c.requires.entries)
    (record {
      left = grown.more c.args.left c.requires.left;
      right = grown.more c.args.right c.requires.right;
      number = number.0;
      composed = rw (grown.same c.args.left c.requires.left, grown.same c.args.right c.requires.right, number.1) c.requires.composed;
    }) c.note.ensures
