use Rattle.std.proofs.Common.{refl}
use Rattle.script_syntax.specs.Fields.{Named, Worded}
use Rattle.script_syntax.proofs.FieldsLemmas.{bad_names, bad_third, passed}
use Rattle.script_syntax.proofs.groups.two_names_and_word.Goals as goal

pub returns-in_err-first-clause-syntax : goal.returns-in_err-first-clause-syntax
returns-in_err-first-clause-syntax c = passed c.from_residual.result _ _ c.from_residual.ensures.1 (λ is. bad_names c.args.args.now c.in-Some.first.now c.in-Some.second.now c.in-Some.word.now Worded c.in-Some.ensures.0 c.in-Some.ensures.1 c.in-Some.ensures.2 (c.in_err-first.ensures.syntax is))

pub returns-in_err-word-clause-syntax : goal.returns-in_err-word-clause-syntax
returns-in_err-word-clause-syntax c = passed c.from_residual-in_err-word.result _ _ c.from_residual-in_err-word.ensures.1 (λ is. bad_third c.args.args.now c.in-Some.first.now c.in-Some.second.now c.in-Some.word.now Named Named Worded c.in-Some.ensures.0 c.in-Some.ensures.1 c.in-Some.ensures.2 refl refl (c.in_err-word.ensures.syntax is))
