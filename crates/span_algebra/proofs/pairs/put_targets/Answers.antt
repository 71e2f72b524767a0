use Rattle.std.proofs.Common.{◌≡◌, length, sym, arith}
use Rattle.std.proofs.lemmas.Result.{err_from_is_err_and}
use Rattle.span_algebra.proofs.PairLaws.{gains-none, no-targets, targets-step, targets-end, targets-refused}
use Rattle.span_algebra.proofs.pairs.put_targets.Goals as goal

pub loop-step-init : goal.loop-step-init
loop-step-init c = gains-none c.args.most c.args.pairs.now.items _ c.requires (no-targets c.args.steps.now)

pub loop-step-preserved : goal.loop-step-preserved
loop-step-preserved c = targets-step c.args.most c.args.pairs.now.items c.loop-step.pairs.items c.put_pair.new.pairs.items c.args.steps.now c.loop-step.step-index c.step-item.result c.loop-step-test.true (sym c.step-item.is) c.loop-step.invariant c.in_ok-put_pair.ensures.gains

pub returns-in_err-put_pair-clause-refused : goal.returns-in_err-put_pair-clause-refused
returns-in_err-put_pair-clause-refused c =
    let p = err_from_is_err_and c.from_residual.result c.from_residual.ensures.1 in
    rw (p.1, p.2) (targets-refused c.args.most c.args.pairs.now.items c.loop-step.pairs.items c.args.steps.now c.loop-step.step-index c.step-item.result _ c.loop-step-test.true (sym c.step-item.is) c.loop-step.invariant c.in_err-put_pair.ensures.refused)

pub returns-clause-gains : goal.returns-clause-gains
returns-clause-gains c =
    let e : c.loop-step.step-index ≡ length c.args.steps.now = omega (arith, c.loop-step-test.false, c.loop-step.auto.step-index-end) in
    targets-end c.args.most c.args.pairs.now.items c.loop-step.pairs.items c.args.steps.now c.loop-step.step-index e c.loop-step.invariant
