use Rattle.std.proofs.Common.{arith, false}
use Rattle.formula_syntax.proofs.Bytes.{empty_set, inserted}
use Rattle.formula_syntax.proofs.set.only.Goals as goal

pub returns : goal.returns
returns c = inserted _ _ c.args.byte (λ z. false) (omega (arith, c.ranges.byte)) (empty_set _ c.empty-members.ensures) c.insert.ensures
