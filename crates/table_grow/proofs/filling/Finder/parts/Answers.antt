use Rattle.std.proofs.Common.{sym, subst}
use Rattle.table_grow.specs.Filling.{Filling, IsDue}
use Rattle.table_grow.proofs.filling.Finder.parts.Goals as goal

pub number-left-requires-clause-placed : goal.number-left-requires-clause-placed
number-left-requires-clause-placed c = ((subst (λ (s : Filling). IsDue s c.args.id) (sym c.self.view_is) c.requires.due).children c.in-Pair.left c.in-Pair.right c.in-Pair.ensures.node).0

pub number-right-requires-clause-placed : goal.number-right-requires-clause-placed
number-right-requires-clause-placed c = ((subst (λ (s : Filling). IsDue s c.args.id) (sym c.self.view_is) c.requires.due).children c.in-Pair.left c.in-Pair.right c.in-Pair.ensures.node).1
