use Rattle.std.specs.Int.{w64}
use Rattle.std.proofs.lemmas.Nat.Bits.{bit_at-trailing_zeros}
use Rattle.state_tables.proofs.state_set.least.Goals as goal

pub returns-clause-bit : goal.returns-clause-bit
returns-clause-bit c = (bit_at-trailing_zeros w64 c.args.word c.requires c.ranges.word.fits).1
