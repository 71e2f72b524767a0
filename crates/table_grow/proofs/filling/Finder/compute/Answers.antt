use Rattle.std.proofs.Common.{sym, subst}
use Rattle.table_grow.specs.Filling.{Filling, IsDue}
use Rattle.table_grow.proofs.filling.Finder.compute.Goals as goal

pub compute-requires-clause-children : goal.compute-requires-clause-children
compute-requires-clause-children c = (subst (λ (s : Filling). IsDue s c.args.id) (sym c.self.view_is) c.requires.due).children

pub compute-requires-clause-true_children : goal.compute-requires-clause-true_children
compute-requires-clause-true_children c = λ l r h. (c.self.invariant.all l.index, c.self.invariant.all r.index)
