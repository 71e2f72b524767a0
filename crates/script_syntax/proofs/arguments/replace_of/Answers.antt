use Rattle.std.proofs.Common.{refl, [], ◌∷◌, ◌++◌}
use Rattle.script_syntax.specs.Fields.{Longest, Named}
use Rattle.script_syntax.proofs.FieldsLemmas.{bad_after, bad_first, bad_rest, bad_second, one_field, passed}
use Rattle.script_syntax.proofs.OptionWords.{bad_longest_name, no_longest}
use Rattle.script_syntax.proofs.arguments.replace_of.Goals as goal

pub returns-in_default-cut_word-clause-syntax : goal.returns-in_default-cut_word-clause-syntax
returns-in_default-cut_word-clause-syntax c = λ _.
    bad_after c.args.args.now c.in-Some.name.now c.in-Some.query.now c.in-Some.rest.now Named Named Named (Longest ∷ []) c.in-Some.ensures.0 c.in-Some.ensures.1 c.in-Some.ensures.2 refl refl
    (one_field c.in-Some.rest.now Named Longest [] c.in_default-cut_word.ensures)

pub returns-in_default-longest_of-clause-syntax : goal.returns-in_default-longest_of-clause-syntax
returns-in_default-longest_of-clause-syntax c = λ _.
    bad_after c.args.args.now c.in-Some.name.now c.in-Some.query.now c.in-Some.rest.now Named Named Named (Longest ∷ []) c.in-Some.ensures.0 c.in-Some.ensures.1 c.in-Some.ensures.2 refl refl
    (bad_rest c.in-Some.rest.now c.in-Some-cut_word.source.now c.in-Some-cut_word.rest.now Named Longest [] c.in-Some-cut_word.ensures.0 c.in-Some-cut_word.ensures.1 refl
    (no_longest c.in-Some-cut_word.rest.now c.in_default-longest_of.ensures))

pub returns-in_err-name-clause-syntax : goal.returns-in_err-name-clause-syntax
returns-in_err-name-clause-syntax c = passed c.from_residual.result _ _ c.from_residual.ensures.1 (λ is. bad_first c.args.args.now c.in-Some.name.now (c.in-Some.query.now ++ 32 ∷ c.in-Some.rest.now) Named Named (Named ∷ Longest ∷ []) c.in-Some.ensures.0 c.in-Some.ensures.1 refl (c.in_err-name.ensures.syntax is))

pub returns-in_err-query-clause-syntax : goal.returns-in_err-query-clause-syntax
returns-in_err-query-clause-syntax c = passed c.from_residual-in_err-query.result _ _ c.from_residual-in_err-query.ensures.1 (λ is. bad_second c.args.args.now c.in-Some.name.now c.in-Some.query.now c.in-Some.rest.now Named Named Named (Longest ∷ []) c.in-Some.ensures.0 c.in-Some.ensures.1 c.in-Some.ensures.2 refl refl (c.in_err-query.ensures.syntax is))

pub returns-in_err-source-clause-syntax : goal.returns-in_err-source-clause-syntax
returns-in_err-source-clause-syntax c = passed c.from_residual-in_err-source.result _ _ c.from_residual-in_err-source.ensures.1 (λ is.
    bad_after c.args.args.now c.in-Some.name.now c.in-Some.query.now c.in-Some.rest.now Named Named Named (Longest ∷ []) c.in-Some.ensures.0 c.in-Some.ensures.1 c.in-Some.ensures.2 refl refl
    (bad_first c.in-Some.rest.now c.in-Some-cut_word.source.now c.in-Some-cut_word.rest.now Named Longest [] c.in-Some-cut_word.ensures.0 c.in-Some-cut_word.ensures.1 refl (c.in_err-source.ensures.syntax is)))

pub returns-in_err-by-clause-syntax : goal.returns-in_err-by-clause-syntax
returns-in_err-by-clause-syntax c = passed c.from_residual-in_err-by.result _ _ c.from_residual-in_err-by.ensures.1 (λ is.
    bad_after c.args.args.now c.in-Some.name.now c.in-Some.query.now c.in-Some.rest.now Named Named Named (Longest ∷ []) c.in-Some.ensures.0 c.in-Some.ensures.1 c.in-Some.ensures.2 refl refl
    (bad_rest c.in-Some.rest.now c.in-Some-cut_word.source.now c.in-Some-cut_word.rest.now Named Longest [] c.in-Some-cut_word.ensures.0 c.in-Some-cut_word.ensures.1 refl
    (bad_longest_name c.in-Some-cut_word.rest.now c.in-Some-longest_of.by.now c.in-Some-longest_of.longest c.in-Some-longest_of.ensures.0 c.in-Some-longest_of.ensures.1 (c.in_err-by.ensures.syntax is))))
