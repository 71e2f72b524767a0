use Rattle.std.proofs.Common.{◌≡◌, length, sym, arith}
use Rattle.marker_nfa.proofs.Adding.{each_step, each_end}
use Rattle.span_algebra.specs.Pairs.{IsNumbered}
use Rattle.span_algebra.proofs.pairs.put_numbered.Goals as goal

pub push_numbered-requires-clause-between : goal.push_numbered-requires-clause-between
push_numbered-requires-clause-between c = c.requires.between c.step-item.result (c.loop-step.step-index, c.loop-step-test.true, sym c.step-item.is)

pub loop-step-preserved : goal.loop-step-preserved
loop-step-preserved c = each_step c.args.edges.now c.loop-step.edges c.push_numbered.new.edges (IsNumbered c.args.pairs.now) c.args.steps.now c.loop-step.step-index c.step-item.result c.loop-step-test.true (sym c.step-item.is) c.loop-step.invariant c.in_ok-push_numbered.ensures

pub returns : goal.returns
returns c =
    let e : c.loop-step.step-index ≡ length c.args.steps.now = omega (arith, c.loop-step-test.false, c.loop-step.auto.step-index-end) in
    each_end c.args.edges.now c.loop-step.edges (IsNumbered c.args.pairs.now) c.args.steps.now _ e c.loop-step.invariant
