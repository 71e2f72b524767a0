use Rattle.std.proofs.Common.{arith, refl}
use Rattle.std.proofs.lemmas.Nat.Bits.{shr_and_one}
use Rattle.span_types.specs.ByteWordLaws.{at-members, length-members}
use Rattle.span_types.proofs.bytes.ByteSet.contains.Goals as goal

pub returns-clause-value : goal.returns-clause-value
returns-clause-value c = rw (← c.self.view_is, at-members c.self.inside.words c.args.b (omega (arith, c.ranges.b)), shr_and_one _ _) refl

pub returns-clause-all : goal.returns-clause-all
returns-clause-all c = rw (← c.self.view_is) (length-members c.self.inside.words)
