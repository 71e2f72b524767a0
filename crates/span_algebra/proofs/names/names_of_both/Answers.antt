use Rattle.std.proofs.lemmas.Result.{err_from_is_err_and}
use Rattle.span_algebra.proofs.PlaceLaws.{names-next, names-refused}
use Rattle.span_algebra.proofs.names.names_of_both.Goals as goal

pub loop-v-preserved : goal.loop-v-preserved
loop-v-preserved c = names-next c.args.left.now c.args.right.now c.loop-v.v c.name.result.now c.loop-v.names _ c.count-v-end.ensures.vars c.name.ensures c.loop-v.invariant c.in_ok-add_name.ensures.added

pub returns-in_err-add_name-clause-refused : goal.returns-in_err-add_name-clause-refused
returns-in_err-add_name-clause-refused c =
    let p = err_from_is_err_and c.from_residual-in_err-add_name.result c.from_residual-in_err-add_name.ensures.1 in
    rw (p.1, p.2) (names-refused c.args.left.now c.args.right.now c.loop-v.v c.name.result.now c.loop-v.names _ c.count-v-end.ensures.vars c.name.ensures c.loop-v.invariant c.in_err-add_name.ensures.refused)
