use Rattle.std.proofs.Common.{refl, []}
use Rattle.script_syntax.specs.Fields.{Named, Rest}
use Rattle.script_syntax.proofs.FieldsLemmas.{bad_first, passed}
use Rattle.script_syntax.proofs.groups.name_and_bytes.Goals as goal

pub returns-in_err-name-clause-syntax : goal.returns-in_err-name-clause-syntax
returns-in_err-name-clause-syntax c = passed c.from_residual.result _ _ c.from_residual.ensures.1 (λ is. bad_first c.args.args.now c.in-Some.name.now c.in-Some.bytes.now Named Rest [] c.in-Some.ensures.0 c.in-Some.ensures.1 refl (c.in_err-name.ensures.syntax is))
