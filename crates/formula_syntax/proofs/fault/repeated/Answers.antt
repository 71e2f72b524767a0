use Rattle.std.proofs.Common.{◌∙◌}
use Rattle.span_types.specs.FormulaTree.{has_var}
use Rattle.formula_syntax.proofs.Least.{repeat_fault, and_same}
use Rattle.formula_syntax.proofs.fault.repeated.Goals as goal

pub returns-clause-star : goal.returns-clause-star
returns-clause-star c = λ f b h. record { held = h.held; fault = c.or.ensures ∙ repeat_fault f c.args.inner.now.fault c.least_common-common.result b h.fault (c.least_common-common.ensures (has_var f) (λ v lt. and_same _ ∙ h.held v lt)) }

pub returns-clause-plus : goal.returns-clause-plus
returns-clause-plus c = λ f b h. record { held = h.held; fault = c.or.ensures ∙ repeat_fault f c.args.inner.now.fault c.least_common-common.result b h.fault (c.least_common-common.ensures (has_var f) (λ v lt. and_same _ ∙ h.held v lt)) }
