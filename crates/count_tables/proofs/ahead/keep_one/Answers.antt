use Rattle.std.proofs.Common.{◌≡◌, ◌+◌, ◌-◌, ◌<◌, length, sym, subst, arith}
use Rattle.marker_dfa.specs.Deterministic.{states_of}
use Rattle.count_tables.specs.Ahead.{AreFound, HasTable}
use Rattle.count_tables.specs.Dictionary.{AreKept}
use Rattle.count_tables.proofs.Entries.{found-extend, found-set, made-true}
use Rattle.count_tables.proofs.ahead.keep_one.Goals as goal

pub returns-in_err-number-clause-found : goal.returns-in_err-number-clause-found
returns-in_err-number-clause-found g c =
    let a = c.args.growth.now.dfa.now in
    let kept : AreKept (states_of c.args.growth.now.dfa.now) c.keep_composed.new.kept = subst (λ n. AreKept n c.keep_composed.new.kept) c.states-states.ensures.value c.keep_composed.ensures.kept in
    found-extend a c.args.growth.now.store.now c.args.kept.now c.keep_composed.new.kept c.args.numbers.now c.args.found.now c.keep_composed.ensures.extends kept c.requires.found

pub returns-clause-found : goal.returns-clause-found
returns-clause-found g c =
    let a = c.args.growth.now.dfa.now in
    let nodes = c.args.growth.now.store.now in
    let new = c.keep_composed.new.kept in
    let numbers = c.args.numbers.now in
    let number = c.in_ok-number.ensures.number in
    let kept : AreKept (states_of c.args.growth.now.dfa.now) c.keep_composed.new.kept = subst (λ n. AreKept n c.keep_composed.new.kept) c.states-states.ensures.value c.keep_composed.ensures.kept in
    let are = found-extend a nodes c.args.kept.now new numbers c.args.found.now c.keep_composed.ensures.extends kept c.requires.found in
    let first = c.requires.job.new in
    let last = c.requires.job.live in
    let offset = c.args.one.job.node - length numbers in
    let index : c.args.one.job.node ≡ length c.args.numbers.now + (c.args.one.job.node - length c.args.numbers.now) = omega (arith, first) in
    let low : c.args.one.job.node - length c.args.numbers.now < length c.args.found.now = omega (arith, first, last) in
    let has : HasTable a nodes new c.args.one.job.node c.in_ok-number.number =
    made-true a nodes c.args.kept.now new numbers c.args.found.now c.args.one c.in_ok-number.number c.requires.found c.requires.job c.requires.made number.0 number.1 in
    subst (λ xs. AreFound a nodes new numbers xs) (sym c.set.ensures)
    (found-set a nodes new numbers c.args.found.now offset c.in_ok-number.number low are (subst (λ k. HasTable a nodes new k c.in_ok-number.number) index has))
