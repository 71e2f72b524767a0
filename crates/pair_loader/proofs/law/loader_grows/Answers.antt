use Rattle.pair_loader.proofs.BlockLemmas.{loader-grows}
use Rattle.pair_loader.proofs.law.loader_grows.Goals as goal

pub returns : goal.returns
returns c = loader-grows
