use Rattle.std.proofs.Common.{arith}
use Rattle.std.proofs.lemmas.Nat.{one_shl}
use Rattle.pair_loader.proofs.blocks.size.Goals as goal

pub returns : goal.returns
returns c = one_shl c.args.height 64 (omega (arith, c.requires))
