use Rattle.slp_model.proofs.TreeLemmas.{length-text, height-enough, height-by_leaves}
use Rattle.slp_model.proofs.law.trees.Goals as goal

pub returns : goal.returns
returns c = record { long = length-text; enough = height-enough; limit = height-by_leaves }
