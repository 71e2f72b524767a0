use Rattle.std.proofs.Common.{refl}
use Rattle.std.proofs.lemmas.Result.{err_from_is_err_and}
use Rattle.std.specs.Prelude.{None}
use Rattle.script_syntax.proofs.OptionWords.{bad_paged_name, bad_start, bare_option, has_start, unlimited_value}
use Rattle.script_syntax.proofs.options.page_of.Goals as goal

pub returns-in_err-name-clause-syntax : goal.returns-in_err-name-clause-syntax
returns-in_err-name-clause-syntax c =
    let p = err_from_is_err_and c.from_residual.result c.from_residual.ensures.1 in
    rw (p.1, p.2) (λ is. bad_paged_name c.args.text.now c.in-Some.name.now c.in-Some.ensures.1 c.in-Some.ensures.0 c.in-Some.ensures.3 (c.in_err-name.ensures.syntax is))

pub returns-in_default-cut_word-clause-syntax : goal.returns-in_default-cut_word-clause-syntax
returns-in_default-cut_word-clause-syntax c = λ _ paged. c.in_default.ensures c.args.text.now None 100 c.in_default-cut_word.ensures refl refl

pub returns-in_default-cut_word-2-clause-syntax : goal.returns-in_default-cut_word-2-clause-syntax
returns-in_default-cut_word-2-clause-syntax c = λ _ paged. bare_option c.in-Some-cut_word.name.now c.in-Some-cut_word.options.now c.in_default-cut_word-2.ensures (has_start c.args.text.now c.in-Some-cut_word.name.now c.in-Some-cut_word.options.now c.in-Some-cut_word.ensures.0 c.in-Some-cut_word.ensures.1 c.in_default.ensures paged)

pub returns-in_default-limited-clause-syntax : goal.returns-in_default-limited-clause-syntax
returns-in_default-limited-clause-syntax c = λ _ paged.
    unlimited_value c.in-Some-cut_word.name.now c.in-Some-cut_word.options.now c.in-Some-cut_word-2.option.now c.in-Some-cut_word-2.more.now c.in-Some-cut_word-2.ensures.0 c.in-Some-cut_word-2.ensures.1 c.in_default-limited.ensures
    (has_start c.args.text.now c.in-Some-cut_word.name.now c.in-Some-cut_word.options.now c.in-Some-cut_word.ensures.0 c.in-Some-cut_word.ensures.1 c.in_default.ensures paged)

pub returns-in_err-name-2-clause-syntax : goal.returns-in_err-name-2-clause-syntax
returns-in_err-name-2-clause-syntax c =
    let p = err_from_is_err_and c.from_residual-in_err-name-2.result c.from_residual-in_err-name-2.ensures.1 in
    rw (p.1, p.2) (λ is paged. c.in_err-name-2.ensures.syntax is ((has_start c.args.text.now c.in-Some-cut_word.name.now c.in-Some-cut_word.options.now c.in-Some-cut_word.ensures.0 c.in-Some-cut_word.ensures.1 c.in_default.ensures paged)).named)

pub returns-in_err-start-clause-syntax : goal.returns-in_err-start-clause-syntax
returns-in_err-start-clause-syntax c =
    let p = err_from_is_err_and c.from_residual-in_err-start.result c.from_residual-in_err-start.ensures.1 in
    rw (p.1, p.2) (λ is paged.
    bad_start c.in-Some-cut_word.name.now c.in-Some-cut_word.options.now c.in-Some-cut_word-2.option.now c.in-Some-cut_word-2.more.now c.in-Some-limited.value.now c.in-Some-limited.ensures.1
    c.in-Some-cut_word-2.ensures.0 c.in-Some-cut_word-2.ensures.1 c.in-Some-limited.ensures.0 c.in-Some-limited.ensures.3 (c.in_err-start.ensures.syntax is)
    (has_start c.args.text.now c.in-Some-cut_word.name.now c.in-Some-cut_word.options.now c.in-Some-cut_word.ensures.0 c.in-Some-cut_word.ensures.1 c.in_default.ensures paged))
