use Rattle.std.proofs.Common.{refl}
use Rattle.script_syntax.specs.Fields.{Named, Varied}
use Rattle.script_syntax.proofs.FieldsLemmas.{bad_names, bad_third, passed}
use Rattle.script_syntax.proofs.arguments.project_of.Goals as goal

pub returns-in_err-name-clause-syntax : goal.returns-in_err-name-clause-syntax
returns-in_err-name-clause-syntax c = passed c.from_residual.result _ _ c.from_residual.ensures.1 (λ is. bad_names c.args.args.now c.in-Some.name.now c.in-Some.source.now c.in-Some.keep.now Varied c.in-Some.ensures.0 c.in-Some.ensures.1 c.in-Some.ensures.2 (c.in_err-name.ensures.syntax is))

pub returns-in_err-keep-clause-syntax : goal.returns-in_err-keep-clause-syntax
returns-in_err-keep-clause-syntax c = passed c.from_residual-in_err-keep.result _ _ c.from_residual-in_err-keep.ensures.1 (λ is. bad_third c.args.args.now c.in-Some.name.now c.in-Some.source.now c.in-Some.keep.now Named Named Varied c.in-Some.ensures.0 c.in-Some.ensures.1 c.in-Some.ensures.2 refl refl (c.in_err-keep.ensures.syntax is))
