use Rattle.std.proofs.Common.{refl, []}
use Rattle.script_syntax.specs.Fields.{Named, Quoted}
use Rattle.script_syntax.proofs.FieldsLemmas.{bad_first, bad_rest, passed}
use Rattle.script_syntax.proofs.arguments.bytes_of.Goals as goal

pub returns-in_err-name-clause-syntax : goal.returns-in_err-name-clause-syntax
returns-in_err-name-clause-syntax c = passed c.from_residual.result _ _ c.from_residual.ensures.1 (λ is. bad_first c.args.args.now c.in-Some.name.now c.in-Some.quoted.now Named Quoted [] c.in-Some.ensures.0 c.in-Some.ensures.1 refl (c.in_err-name.ensures.syntax is))

pub returns-in_err-bytes-clause-syntax : goal.returns-in_err-bytes-clause-syntax
returns-in_err-bytes-clause-syntax c = passed c.from_residual-in_err-bytes.result _ _ c.from_residual-in_err-bytes.ensures.1 (λ is. bad_rest c.args.args.now c.in-Some.name.now c.in-Some.quoted.now Named Quoted [] c.in-Some.ensures.0 c.in-Some.ensures.1 refl (λ fits. c.in_err-bytes.ensures.syntax is fits.0 fits.1))
