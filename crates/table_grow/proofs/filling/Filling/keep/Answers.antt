use Rattle.table_grow.specs.Filling.{filling_of}
use Rattle.table_grow.proofs.Growing.{ready-kept}
use Rattle.table_grow.proofs.filling.Filling.keep.Goals as goal

pub invariant_of-self : goal.invariant_of-self
invariant_of-self c =
    let at = c.self.inside in
    ready-kept (filling_of at.growth.dfa.now at.growth.store.now at.tables at.filler at.memory) c.keep_one.new.tables c.keep_one.new.memory
    c.count.ensures.facts c.keep_one.ensures.kept c.keep_one.ensures.entries c.self.invariant
