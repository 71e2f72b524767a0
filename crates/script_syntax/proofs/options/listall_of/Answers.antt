use Rattle.std.proofs.lemmas.Result.{err_from_is_err_and}
use Rattle.script_syntax.proofs.OptionWords.{bad_limited_name}
use Rattle.script_syntax.proofs.options.listall_of.Goals as goal

pub returns-in_err-query-clause-syntax : goal.returns-in_err-query-clause-syntax
returns-in_err-query-clause-syntax c =
    let p = err_from_is_err_and c.from_residual.result c.from_residual.ensures.1 in
    rw (p.1, p.2) (λ is. bad_limited_name c.args.args.now c.in-Some.query.now c.in-Some.ensures.1 c.in-Some.ensures.0 c.in-Some.ensures.3 (c.in_err-query.ensures.syntax is))
