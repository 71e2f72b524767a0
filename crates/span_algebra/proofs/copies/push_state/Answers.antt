use Rattle.std.proofs.Common.{◌≡◌, sym, length, arith}
use Rattle.marker_nfa.proofs.Adding.{each_step, each_end}
use Rattle.span_algebra.specs.Making.{IsEdgeOf}
use Rattle.span_algebra.proofs.copies.push_state.Goals as goal

pub loop-class-preserved : goal.loop-class-preserved
loop-class-preserved c = each_step _ _ _ (IsEdgeOf c.args.copy.dfa.now c.args.copy.places.now c.args.from c.args.copy.base c.args.state) c.args.classes.now c.loop-class.class-index c.class-item.result c.loop-class-test.true (sym c.class-item.is) c.loop-class.invariant c.in_ok-push_class.ensures

pub returns : goal.returns
returns c =
    let e : c.loop-class.class-index ≡ length c.args.classes.now = omega (arith, c.loop-class-test.false, c.loop-class.auto.class-index-end) in
    each_end _ _ (IsEdgeOf c.args.copy.dfa.now c.args.copy.places.now c.args.from c.args.copy.base c.args.state) c.args.classes.now _ e c.loop-class.invariant
