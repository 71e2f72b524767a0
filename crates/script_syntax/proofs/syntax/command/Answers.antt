use Rattle.std.proofs.Common.{sym, arith, ◌∙◌}
use Rattle.std.proofs.lemmas.Result.{err_from_is_err_and}
use Rattle.script_syntax.proofs.Named.{cut_command, no_keyword, wrong_fields, not_hash, whole_line}
use Rattle.script_syntax.proofs.syntax.command.Goals as goal

pub returns-in_default-keyword_of-clause-syntax : goal.returns-in_default-keyword_of-clause-syntax
returns-in_default-keyword_of-clause-syntax c = λ _ command text.
    no_keyword c.in-Some.word.now c.in-Some.args.now (sym c.keyword_of.ensures ∙ c.in_default-keyword_of.is) (cut_command c.args.line.now c.in-Some.word.now c.in-Some.args.now c.in-Some.ensures.0 c.in-Some.ensures.1 (omega arith) (not_hash c.args.line.now c.if-first-eq35.false) command text)

pub returns-in_err-command-2-clause-syntax : goal.returns-in_err-command-2-clause-syntax
returns-in_err-command-2-clause-syntax c =
    let p = err_from_is_err_and c.from_residual-in_err-command-2.result c.from_residual-in_err-command-2.ensures.1 in
    rw (p.1, p.2) (λ is command text. wrong_fields c.in-Some.word.now c.in-Some.args.now c.in-Some-keyword_of.keyword (sym c.keyword_of.ensures ∙ c.in-Some-keyword_of.is) (c.in_err-command-2.ensures.syntax is) (cut_command c.args.line.now c.in-Some.word.now c.in-Some.args.now c.in-Some.ensures.0 c.in-Some.ensures.1 (omega arith) (not_hash c.args.line.now c.if-first-eq35.false) command text))

pub returns-clause-ok : goal.returns-clause-ok
returns-clause-ok c = record {
  short = omega arith;
  form = whole_line c.args.line.now c.in-Some.word.now c.in-Some.args.now c.in-Some-keyword_of.keyword c.in_ok-command-2.command c.in-Some.ensures.0 (sym c.keyword_of.ensures ∙ c.in-Some-keyword_of.is) c.in_ok-command-2.ensures.ok;
}
