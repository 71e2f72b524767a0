use Rattle.formula_law.proofs.Tuples.{accepts-tuples}
use Rattle.formula_law.proofs.law.accepts_tuples.Goals as goal

pub returns : goal.returns
returns c = accepts-tuples
