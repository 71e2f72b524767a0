use Rattle.std.proofs.Common.{refl}
use Rattle.path_counts.specs.Digest.{mixed}
use Rattle.path_counts.proofs.digest.mixed.Goals as goal

pub returns : goal.returns
unfolding mixed
returns c = refl
