use Rattle.std.proofs.Common.{rules}
use Rattle.spanshell.proofs.options_of.Goals as goal

pub returns-in-Err-Usage-clause-usage : goal.returns-in-Err-Usage-clause-usage
returns-in-Err-Usage-clause-usage c = λ _. c.in-Err-Usage.ensures.refused (search (rules, c.in-Err-Usage.field-0-is))
