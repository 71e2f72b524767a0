use Rattle.std.proofs.Common.{refl, []}
use Rattle.script_syntax.specs.Fields.{Named}
use Rattle.script_syntax.proofs.FieldsLemmas.{bad_first, bad_rest, passed}
use Rattle.script_syntax.proofs.groups.two_names.Goals as goal

pub returns-in_err-first-clause-syntax : goal.returns-in_err-first-clause-syntax
returns-in_err-first-clause-syntax c = passed c.from_residual.result _ _ c.from_residual.ensures.1 (λ is. bad_first c.args.args.now c.in-Some.first.now c.in-Some.second.now Named Named [] c.in-Some.ensures.0 c.in-Some.ensures.1 refl (c.in_err-first.ensures.syntax is))

pub returns-in_err-second-clause-syntax : goal.returns-in_err-second-clause-syntax
returns-in_err-second-clause-syntax c = passed c.from_residual-in_err-second.result _ _ c.from_residual-in_err-second.ensures.1 (λ is. bad_rest c.args.args.now c.in-Some.first.now c.in-Some.second.now Named Named [] c.in-Some.ensures.0 c.in-Some.ensures.1 refl (c.in_err-second.ensures.syntax is))
