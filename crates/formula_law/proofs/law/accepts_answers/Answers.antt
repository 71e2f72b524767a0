use Rattle.formula_law.proofs.BothWays.{law}
use Rattle.formula_law.proofs.law.accepts_answers.Goals as goal

pub returns : goal.returns
returns c = law
