use Rattle.std.proofs.Common.{sym, subst}
use Rattle.table_grow.specs.Filling.{Filling, IsDue, IsNumberOf, filling_of}
use Rattle.table_grow.proofs.Growing.{ready-assigned}
use Rattle.table_grow.proofs.filling.Filling.assign.Goals as goal

pub place_kept-requires-clause-children : goal.place_kept-requires-clause-children
place_kept-requires-clause-children c = (subst (λ (s : Filling). IsDue s c.args.id) (sym c.self.view_is) c.requires.due).children

pub invariant_of-self : goal.invariant_of-self
invariant_of-self c =
    let at = c.self.inside in
    rw c.place_kept.ensures
    (ready-assigned (filling_of at.growth.dfa.now at.growth.store.now at.tables at.filler at.memory) c.args.id c.args.number c.self.invariant
    (subst (λ (s : Filling). IsDue s c.args.id) (sym c.self.view_is) c.requires.due) (subst (λ (s : Filling). IsNumberOf s c.args.id.index c.args.number) (sym c.self.view_is) c.requires.number))
