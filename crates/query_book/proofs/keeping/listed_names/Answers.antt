use Rattle.std.proofs.lemmas.Result.{err_from_is_err_and}
use Rattle.query_book.proofs.KeptNames.{cut-name, kept-push, last-name, read-all, read-next, refused-last, refused-next}
use Rattle.query_book.proofs.keeping.listed_names.Goals as goal

pub keep_name-requires-clause-name : goal.keep_name-requires-clause-name
keep_name-requires-clause-name c =
    cut-name c.args.vars.now c.args.keep.now c.loop-name.names c.loop-name.rest.now c.loop-name.invariant c.in-Some.name.now c.in-Some.more.now c.in-Some.ensures.0 c.in-Some.ensures.1

pub returns-in_err-keep_name-clause-refused : goal.returns-in_err-keep_name-clause-refused
returns-in_err-keep_name-clause-refused c =
    let p = err_from_is_err_and c.from_residual.result c.from_residual.ensures.1 in
    rw (p.1, p.2) (refused-next c.args.vars.now c.args.keep.now c.loop-name.names c.loop-name.rest.now c.loop-name.invariant c.in-Some.name.now c.in-Some.more.now _ c.in-Some.ensures.0 c.in-Some.ensures.1 c.in_err-keep_name.ensures.refused)

pub loop-name-preserved : goal.loop-name-preserved
loop-name-preserved c =
    read-next c.args.vars.now c.args.keep.now c.loop-name.names c.loop-name.rest.now c.loop-name.invariant c.in-Some.name.now c.in-Some.more.now c.keep_name.new.names c.in-Some.ensures.0 c.in-Some.ensures.1 c.in_ok-keep_name.ensures.ok

pub keep_name-requires-2-clause-name : goal.keep_name-requires-2-clause-name
keep_name-requires-2-clause-name c = last-name c.args.vars.now c.args.keep.now c.loop-name.names c.loop-name.rest.now c.loop-name.invariant c.in_default.ensures

pub returns-in_err-keep_name-2-clause-refused : goal.returns-in_err-keep_name-2-clause-refused
returns-in_err-keep_name-2-clause-refused c =
    let p = err_from_is_err_and c.from_residual-in_err-keep_name-2.result c.from_residual-in_err-keep_name-2.ensures.1 in
    let named = last-name c.args.vars.now c.args.keep.now c.loop-name.names c.loop-name.rest.now c.loop-name.invariant c.in_default.ensures in
    rw (p.1, p.2) (refused-last c.args.vars.now c.args.keep.now c.loop-name.names c.loop-name.rest.now c.loop-name.invariant _ named c.in_err-keep_name-2.ensures.refused)

pub returns-clause-names : goal.returns-clause-names
returns-clause-names c =
    let named = last-name c.args.vars.now c.args.keep.now c.loop-name.names c.loop-name.rest.now c.loop-name.invariant c.in_default.ensures in
    read-all c.args.vars.now c.args.keep.now c.loop-name.names c.loop-name.rest.now c.loop-name.invariant c.keep_name-2.new.names named c.in_ok-keep_name-2.ensures.ok

pub returns-clause-variables : goal.returns-clause-variables
returns-clause-variables c = kept-push c.args.vars.now c.loop-name.names c.keep_name-2.new.names c.loop-name.rest.now c.loop-name.invariant.kept c.in_ok-keep_name-2.ensures.ok
