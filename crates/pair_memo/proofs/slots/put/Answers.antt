use Rattle.std.proofs.Common.{arith}
use Rattle.pair_memo.proofs.EntryLemmas.{entries-set, length-new, length-same}
use Rattle.pair_memo.proofs.slots.put.Goals as goal

pub returns-in-None-clause-entries : goal.returns-in-None-clause-entries
returns-in-None-clause-entries c = entries-set c.args.slots.now c.index_for-index.result c.args.entry

pub returns-in-Some-clause-entries : goal.returns-in-Some-clause-entries
returns-in-Some-clause-entries c = entries-set c.args.slots.now c.index_for-index.result c.args.entry

pub returns-in-None-clause-count : goal.returns-in-None-clause-count
returns-in-None-clause-count c = length-new c.args.slots.now c.index_for-index.result c.args.entry c.if-index-slots.false c.in-None.is

pub returns-in-Some-clause-count : goal.returns-in-Some-clause-count
returns-in-Some-clause-count c = omega (arith, length-same c.args.slots.now c.index_for-index.result c.args.entry c.in-Some.field-0 c.if-index-slots.false c.in-Some.is)
