use Rattle.span_types.proofs.LimitLemmas.{height_limit-right}
use Rattle.span_types.proofs.law.greatest_height.Goals as goal

pub returns : goal.returns
returns c = height_limit-right
