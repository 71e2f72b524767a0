use Rattle.std.proofs.Common.{[], get_or, sym, subst}
use Rattle.slp_model.specs.Tree.{text}
use Rattle.path_counts.specs.Counting.{IsCountTable}
use Rattle.count_tables.specs.Ahead.{AreFound}
use Rattle.count_tables.proofs.Entries.{found-extend, found-set}
use Rattle.count_tables.proofs.ahead.find_byte.Goals as goal

pub returns-in_err-number-clause-found : goal.returns-in_err-number-clause-found
returns-in_err-number-clause-found g c =
    found-extend c.args.growth.now.dfa.now c.args.growth.now.store.now c.args.kept.now c.byte_number.new.kept c.args.numbers.now c.args.found.now c.byte_number.ensures.extends c.byte_number.ensures.kept c.requires.found

pub returns-in_ok-number-clause-found : goal.returns-in_ok-number-clause-found
returns-in_ok-number-clause-found g c =
    let a = c.args.growth.now.dfa.now in
    let nodes = c.args.growth.now.store.now in
    let new = c.byte_number.new.kept in
    let number = c.in_ok-number.ensures.number in
    let are = found-extend a nodes c.args.kept.now new c.args.numbers.now c.args.found.now c.byte_number.ensures.extends c.byte_number.ensures.kept c.requires.found in
    subst (λ xs. AreFound a nodes new c.args.numbers.now xs) (sym c.set.ensures)
    (found-set a nodes new c.args.numbers.now c.args.found.now c.args.index c.in_ok-number.number c.requires.index are
    (record { within = number.0; table = subst (λ t. IsCountTable a (text t) (get_or new c.in_ok-number.number [])) (sym c.in-Byte.ensures.tree) number.1 }))
