use Rattle.table_grow.proofs.Placed.{ready-new}
use Rattle.table_grow.proofs.filling.Filling.open.Goals as goal

pub invariant_of-result : goal.invariant_of-result
invariant_of-result c =
    rw (c.replace.ensures.value, c.replace-2.ensures.value)
    (ready-new c.args.growth.dfa.now c.args.growth.store.now c.args.tables.now c.new.new.tables c.in_ok-filler.filler c.args.memory.now c.states.ensures.automaton c.count.ensures.sound
    c.requires.true_tables c.requires.true_entries c.requires.states c.in_ok-filler.ensures.fits c.in_ok-filler.ensures.empty c.new.ensures.same)
