use Rattle.std.proofs.Common.{refl, [], ◌∷◌, ◌++◌, subst, IsTrue}
use Rattle.script_syntax.specs.Fields.{Equals, Named, Rest}
use Rattle.line_parts.proofs.Cuts.{not_true}
use Rattle.script_syntax.proofs.FieldsLemmas.{bad_first, bad_second, passed}
use Rattle.script_syntax.proofs.arguments.let_of.Goals as goal

pub returns-then-not-is_same-clause-syntax : goal.returns-then-not-is_same-clause-syntax
returns-then-not-is_same-clause-syntax c = λ _. bad_second c.args.args.now c.in-Some.name.now c.in-Some.sign.now c.in-Some.expr.now Named Equals Rest [] c.in-Some.ensures.0 c.in-Some.ensures.1 c.in-Some.ensures.2 refl refl (λ e. not_true (subst IsTrue c.if-not-is_same.true (c.is_same.ensures.1 e)))

pub returns-in_err-name-clause-syntax : goal.returns-in_err-name-clause-syntax
returns-in_err-name-clause-syntax c = passed c.from_residual.result _ _ c.from_residual.ensures.1 (λ is. bad_first c.args.args.now c.in-Some.name.now (c.in-Some.sign.now ++ 32 ∷ c.in-Some.expr.now) Named Equals (Rest ∷ []) c.in-Some.ensures.0 c.in-Some.ensures.1 refl (c.in_err-name.ensures.syntax is))
