use Rattle.std.proofs.Common.{◌-◌, bit_and, ap}
use Rattle.state_tables.specs.SharedSet.{set_root}
use Rattle.state_tables.proofs.shared_set.SharedSetDigested.root.Goals as goal

pub returns-clause-value : goal.returns-clause-value
unfolding set_root
returns-clause-value c = ap (λ d. bit_and d (c.args.roots - 1)) c.digest.ensures
