use Rattle.std.proofs.Common.{◌≡◌, suc, length, refl, arith}
use Rattle.count_tables.proofs.Growing.{tables-push}
use Rattle.count_tables.proofs.growth.place_next.Goals as goal

pub returns-in_ok-push-in-Some-clause-tables : goal.returns-in_ok-push-in-Some-clause-tables
returns-in_ok-push-in-Some-clause-tables g c =
    let n = c.in-Some.number in
    let numbers = c.args.numbers.now.items in
    let entry : c.args.entry ≡ suc c.in-Some.number = omega (arith, c.in-Some.ensures) in
    let has = c.requires.entry n entry in
    rw c.in_ok-push-in-Some.ensures.items (tables-push c.args.growth.now.dfa.now c.args.growth.now.store.now c.args.kept.now numbers n (length numbers) c.requires.tables refl has.within has.table)
