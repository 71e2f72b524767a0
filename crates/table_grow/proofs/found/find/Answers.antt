use Rattle.std.proofs.Common.{ℕ, IfSome, Option, sym, subst}
use Rattle.table_grow.specs.Filling.{AreParts, Filling, IsNumberOf}
use Rattle.table_grow.proofs.Placed.{entry-number}
use Rattle.table_grow.proofs.found.find.Goals as goal

pub returns-in-Some-clause-found : goal.returns-in-Some-clause-found
returns-in-Some-clause-found c =
    let s = c.args.filling.now in
    let found = c.in-Some.ensures.found in
    let parts = subst (λ (o : Option (ℕ × ℕ)). IfSome o (AreParts s c.args.id.index)) found.1 (rw c.finder.ensures at c.parts-parts.ensures.parts) in
    subst (λ (t : Filling). IsNumberOf t c.args.id.index c.in-Some.number) (sym c.recall_again.ensures.same) (entry-number s c.args.id.index found.0 c.in-Some.number (rw c.finder.ensures at c.parts-parts.ensures.ready) parts found.2)
