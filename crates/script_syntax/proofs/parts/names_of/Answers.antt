use Rattle.script_syntax.proofs.FieldsLemmas.{passed}
use Rattle.script_syntax.proofs.parts.names_of.Goals as goal

pub returns-in_err-first-clause-syntax : goal.returns-in_err-first-clause-syntax
returns-in_err-first-clause-syntax c = passed c.from_residual.result _ _ c.from_residual.ensures.1 (λ is both. c.in_err-first.ensures.syntax is both.0)

pub returns-in_err-second-clause-syntax : goal.returns-in_err-second-clause-syntax
returns-in_err-second-clause-syntax c = passed c.from_residual-in_err-second.result _ _ c.from_residual-in_err-second.ensures.1 (λ is both. c.in_err-second.ensures.syntax is both.1)
