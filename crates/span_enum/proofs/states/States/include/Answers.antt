use Rattle.std.proofs.Common.{sym}
use Rattle.std.specs.Int.Bits.{or_zero_r}
use Rattle.span_enum.proofs.WordSets.{or-word}
use Rattle.span_enum.proofs.states.States.include.Goals as goal

pub invariant_of-self : goal.invariant_of-self
invariant_of-self g c = (or-word g.row.N c.self.inside.words c.args.q c.self.invariant c.requires).0

pub returns-then-included : goal.returns-then-included
returns-then-included g c = rw (c.if-included.true, ← c.self.view_is) ((or-word g.row.N c.self.inside.words c.args.q c.self.invariant c.requires).1)

pub returns-else-included : goal.returns-else-included
returns-else-included g c = rw c.if-included.false (sym (or_zero_r c.args.self.now))
