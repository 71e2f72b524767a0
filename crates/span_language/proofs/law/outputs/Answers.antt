use Rattle.span_language.proofs.Outputs.{one_output}
use Rattle.span_language.proofs.law.outputs.Goals as goal

pub returns : goal.returns
returns c = one_output
