use Rattle.std.proofs.Common.{refl, []}
use Rattle.script_syntax.specs.Fields.{Named, Paged}
use Rattle.script_syntax.proofs.FieldsLemmas.{bad_first, bad_rest, passed}
use Rattle.script_syntax.proofs.options.list_of.Goals as goal

pub returns-in_err-query-clause-syntax : goal.returns-in_err-query-clause-syntax
returns-in_err-query-clause-syntax c = passed c.from_residual.result _ _ c.from_residual.ensures.1 (λ is. bad_first c.args.args.now c.in-Some.query.now c.in-Some.rest.now Named Paged [] c.in-Some.ensures.0 c.in-Some.ensures.1 refl (c.in_err-query.ensures.syntax is))

pub returns-in_err-name-clause-syntax : goal.returns-in_err-name-clause-syntax
returns-in_err-name-clause-syntax c = passed c.from_residual-in_err-name.result _ _ c.from_residual-in_err-name.ensures.1 (λ is. bad_rest c.args.args.now c.in-Some.query.now c.in-Some.rest.now Named Paged [] c.in-Some.ensures.0 c.in-Some.ensures.1 refl (c.in_err-name.ensures.syntax is))
