use Rattle.pair_memo.proofs.EntryLemmas.{entry-read}
use Rattle.pair_memo.proofs.slots.find.Goals as goal

pub returns-then-second-right : goal.returns-then-second-right
returns-then-second-right c =
    let read = c.in_ok-get.ensures.lookup in
    entry-read c.args.slots.now c.slot_of-own.result c.in_ok-get.field-0.now c.in_ok-first.first c.in_ok-first.second c.in_ok-first.number c.args.left c.args.right
    read.0 read.1 c.in_ok-first.was c.if-first-left.true c.if-second-right.true
