use Rattle.std.proofs.Common.{◌∙◌, ap, ap₂}
use Rattle.std.specs.Prelude.{◌&&◌, ◌||◌}
use Rattle.std.specs.Option.{option_or}
use Rattle.span_types.specs.FormulaTree.{has_var}
use Rattle.formula_syntax.proofs.Least.{both_fault}
use Rattle.formula_syntax.proofs.fault.both.Goals as goal

pub returns : goal.returns
returns c f g below x y = record {
  held = λ v lt. c.either.ensures v lt ∙ ap₂ (λ p q. p || q) (x.held v lt) (y.held v lt);
  fault = c.or.ensures ∙ ap (λ z. option_or z c.least_common-common.result) c.or-fault.ensures
      ∙ both_fault f g c.args.left.now.fault c.args.right.now.fault c.least_common-common.result below.0 x.fault y.fault (c.least_common-common.ensures (λ v. has_var f v && has_var g v) (λ v lt. ap₂ (λ p q. p && q) (x.held v lt) (y.held v lt)));
}
