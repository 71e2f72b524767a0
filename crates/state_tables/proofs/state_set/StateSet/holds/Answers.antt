use Rattle.std.proofs.Common.{◌==◌, ap}
use Rattle.state_tables.specs.StateSet.{member}
use Rattle.state_tables.proofs.state_set.StateSet.holds.Goals as goal

pub returns : goal.returns
unfolding member
returns c = ap (λ b. b == 1) c.bit.ensures
