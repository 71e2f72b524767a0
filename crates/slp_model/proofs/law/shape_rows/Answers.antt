use Rattle.std.proofs.Common.{refl}
use Rattle.slp_model.specs.Join.{join}
use Rattle.slp_model.specs.Shape.{shape}
use Rattle.slp_model.proofs.law.shape_rows.Goals as goal

pub returns : goal.returns
unfolding shape join
returns c = record { abc = refl; abcde = refl; abracadabra = refl }
