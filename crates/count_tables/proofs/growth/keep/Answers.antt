use Rattle.std.proofs.Common.{◌+◌, ◌<◌, ◌^◌, length, arith}
use Rattle.count_tables.proofs.Keeping.{AreKept-keep, read-ok}
use Rattle.count_tables.proofs.growth.keep.Goals as goal

pub returns-clause-kept : goal.returns-clause-kept
returns-clause-kept c =
    let room : length c.args.kept.now + 1 < 2 ^ 32 = omega (arith, c.if-len-ge-MAX_TABLES.false, c.len.ensures) in
    (AreKept-keep c.insert.result c.args.states c.args.kept.now c.insert.new.self c.args.table c.requires.kept c.requires.table room c.insert.ensures.taken c.insert.ensures.err).0

pub returns-clause-extends : goal.returns-clause-extends
returns-clause-extends c =
    let room : length c.args.kept.now + 1 < 2 ^ 32 = omega (arith, c.if-len-ge-MAX_TABLES.false, c.len.ensures) in
    (AreKept-keep c.insert.result c.args.states c.args.kept.now c.insert.new.self c.args.table c.requires.kept c.requires.table room c.insert.ensures.taken c.insert.ensures.err).1

pub returns-clause-number : goal.returns-clause-number
returns-clause-number c = read-ok c.insert.result c.insert.new.self c.args.table c.insert.ensures.index
