use Rattle.std.proofs.Common.{subst}
use Rattle.slp_model.proofs.ShapeLemmas.{IsBalancedRoot, shape-text, shape-balanced, shape-limit}
use Rattle.slp_model.proofs.law.shapes.Goals as goal

pub returns : goal.returns
returns c = record { text = shape-text; balanced = λ s t e. subst IsBalancedRoot e (shape-balanced s); limit = shape-limit }
