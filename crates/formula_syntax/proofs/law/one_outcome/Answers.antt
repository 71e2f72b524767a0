use Rattle.std.proofs.Common.{sym, ◌∙◌}
use Rattle.formula_syntax.proofs.Outcomes.{outcome, is-outcome, has-outcome}
use Rattle.formula_syntax.proofs.law.one_outcome.Goals as goal

pub returns : goal.returns
returns c = record { some = λ s. (outcome s, has-outcome s); one = λ s o p h k. is-outcome s o h ∙ sym (is-outcome s p k) }
