use Rattle.std.proofs.Common.{refl, [], ◌∷◌, ◌++◌}
use Rattle.script_syntax.specs.Fields.{Named, Numbered}
use Rattle.script_syntax.proofs.FieldsLemmas.{bad_first, bad_second, bad_third, passed}
use Rattle.script_syntax.proofs.arguments.show_of.Goals as goal

pub returns-in_default-number-clause-syntax : goal.returns-in_default-number-clause-syntax
returns-in_default-number-clause-syntax c = λ _. bad_second c.args.args.now c.in-Some.name.now c.in-Some.from.now c.in-Some.to.now Named Numbered Numbered [] c.in-Some.ensures.0 c.in-Some.ensures.1 c.in-Some.ensures.2 refl refl (λ (n, h). c.in_default-number.ensures n h)

pub returns-in_default-number-2-clause-syntax : goal.returns-in_default-number-2-clause-syntax
returns-in_default-number-2-clause-syntax c = λ _. bad_third c.args.args.now c.in-Some.name.now c.in-Some.from.now c.in-Some.to.now Named Numbered Numbered c.in-Some.ensures.0 c.in-Some.ensures.1 c.in-Some.ensures.2 refl refl (λ (n, h). c.in_default-number-2.ensures n h)

pub returns-in_err-name-clause-syntax : goal.returns-in_err-name-clause-syntax
returns-in_err-name-clause-syntax c = passed c.from_residual.result _ _ c.from_residual.ensures.1 (λ is. bad_first c.args.args.now c.in-Some.name.now (c.in-Some.from.now ++ 32 ∷ c.in-Some.to.now) Named Numbered (Numbered ∷ []) c.in-Some.ensures.0 c.in-Some.ensures.1 refl (c.in_err-name.ensures.syntax is))
