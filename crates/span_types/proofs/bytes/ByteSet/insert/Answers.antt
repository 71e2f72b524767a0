use Rattle.span_types.specs.ByteWordLaws.{members-with, AreWords-with}
use Rattle.span_types.proofs.bytes.ByteSet.insert.Goals as goal

pub invariant_of-self : goal.invariant_of-self
invariant_of-self c = AreWords-with c.self.inside.words c.args.b c.self.invariant c.ranges.b.fits

pub returns : goal.returns
returns c = rw (← c.self.view_is) (members-with c.self.inside.words c.args.b c.self.invariant.size c.ranges.b.fits)
