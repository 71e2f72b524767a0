use Rattle.std.proofs.Common.{◌+◌, length, refl, sym, subst, arith}
use Rattle.count_tables.specs.Ahead.{AreFound, HasTable}
use Rattle.count_tables.proofs.Entries.{found-set, pair-cached, pair-job}
use Rattle.count_tables.proofs.ahead.look_up.Goals as goal

pub set-requires-clause-kept : goal.set-requires-clause-kept
set-requires-clause-kept g c =
    let stage = c.in-Found.ensures.stage in
    (pair-cached c.args.growth.now.dfa.now c.args.growth.now.store.now c.args.kept.now c.args.numbers.now c.args.found.now (length c.args.numbers.now + c.args.index) c.in-Pair.left c.in-Pair.right stage.0.0 stage.0.1
    c.states.ensures.automaton c.requires.found c.in-Pair.ensures.tree stage.1 stage.2 c.args.memo.now c.in-Found.number c.requires.entries stage.3).within

pub returns-in-Found-clause-found : goal.returns-in-Found-clause-found
returns-in-Found-clause-found g c =
    let a = c.args.growth.now.dfa.now in
    let nodes = c.args.growth.now.store.now in
    let stage = c.in-Found.ensures.stage in
    let has : HasTable a nodes c.args.kept.now (length c.args.numbers.now + c.args.index) c.in-Found.number =
    pair-cached a nodes c.args.kept.now c.args.numbers.now c.args.found.now (length c.args.numbers.now + c.args.index) c.in-Pair.left c.in-Pair.right stage.0.0 stage.0.1
    c.states.ensures.automaton c.requires.found c.in-Pair.ensures.tree stage.1 stage.2 c.args.memo.now c.in-Found.number c.requires.entries stage.3 in
    subst (λ xs. AreFound a nodes c.args.kept.now c.args.numbers.now xs) (sym c.set.ensures)
    (found-set a nodes c.args.kept.now c.args.numbers.now c.args.found.now c.args.index c.in-Found.number c.requires.index c.requires.found has)

pub returns-in-Due-clause-job : goal.returns-in-Due-clause-job
returns-in-Due-clause-job g c =
    let stage = c.in-Due.ensures.stage in
    let job = c.in-Due.job in
    pair-job c.args.growth.now.dfa.now c.args.growth.now.store.now c.args.kept.now c.args.numbers.now c.args.found.now (length c.args.numbers.now + c.args.index) c.in-Pair.left c.in-Pair.right job.left job.right
    c.states.ensures.automaton c.requires.found c.in-Pair.ensures.tree stage.1 stage.2 (length c.args.found.now) job stage.0 refl refl (omega arith) (omega (arith, c.requires.index))
