use Rattle.std.proofs.Common.{ap, sym, subst}
use Rattle.state_tables.specs.Dictionary.{AreTables, Dictionary}
use Rattle.table_grow.specs.Assignment.{AllAssigned}
use Rattle.table_grow.specs.Filling.{Filling, IsFilled, filling_of}
use Rattle.table_grow.proofs.Growing.{entries-same}
use Rattle.table_grow.proofs.Placed.{all-placed, finished-true, unfinished-true}
use Rattle.table_grow.proofs.filling.Filling.close.Goals as goal

pub returns-in_err-done-clause-meaning : goal.returns-in_err-done-clause-meaning
returns-in_err-done-clause-meaning g c =
    let at = c.self.inside in
    subst (λ (s : Filling). AreTables s.automaton s.nodes at.tables) c.self.view_is (unfinished-true (filling_of at.growth.dfa.now at.growth.store.now at.tables at.filler at.memory) c.self.invariant)

pub finish-requires-clause-all_placed : goal.finish-requires-clause-all_placed
finish-requires-clause-all_placed g c =
    let at = c.self.inside in
    let filled : IsFilled c.args.self = rw c.in_ok-done.was at c.requires.filled in
    all-placed at.growth.store.now at.tables at.filler c.self.invariant.fits (subst IsFilled (sym c.self.view_is) filled)

pub returns-clause-meaning : goal.returns-clause-meaning
returns-clause-meaning g c =
    let at = c.self.inside in
    let filled : IsFilled c.args.self = rw c.in_ok-done.was at c.requires.filled in
    let placed : AllAssigned at.filler = all-placed at.growth.store.now at.tables at.filler c.self.invariant.fits (subst IsFilled (sym c.self.view_is) filled) in
    subst (λ (s : Filling). AreTables s.automaton s.nodes c.finish.new.tables) c.self.view_is
    (subst (AreTables at.growth.dfa.now at.growth.store.now) (sym c.finish.ensures.finished)
    (finished-true (filling_of at.growth.dfa.now at.growth.store.now at.tables at.filler at.memory) c.self.invariant placed))

pub returns-clause-entries : goal.returns-clause-entries
returns-clause-entries g c =
    let at = c.self.inside in
    entries-same at.tables c.finish.new.tables at.memory (ap (λ (x : Dictionary). x.kept) c.finish.ensures.finished) c.self.invariant.entries
