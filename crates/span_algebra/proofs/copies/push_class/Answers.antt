use Rattle.std.proofs.Common.{◌≡◌, length, arith}
use Rattle.marker_nfa.proofs.Adding.{each_at, each_end}
use Rattle.span_algebra.specs.Making.{IsEdgeBy}
use Rattle.span_algebra.proofs.EdgeLaws.{class-edges}
use Rattle.span_algebra.proofs.copies.push_class.Goals as goal

pub loop-mark-preserved : goal.loop-mark-preserved
loop-mark-preserved c = each_at _ _ _ (IsEdgeBy c.args.copy.dfa.now c.args.copy.places.now c.args.from c.args.copy.base c.args.state c.args.class.now) c.marks-mark-items.result.now c.loop-mark.mark-index 0 c.loop-mark-test.true c.loop-mark.invariant c.in_ok-push_edge.ensures

pub returns : goal.returns
returns c =
    let e : c.loop-mark.mark-index ≡ length c.marks-mark-items.result.now = omega (arith, c.loop-mark-test.false, c.loop-mark.auto.mark-index-end) in
    let h = each_end _ _ (IsEdgeBy c.args.copy.dfa.now c.args.copy.places.now c.args.from c.args.copy.base c.args.state c.args.class.now) c.marks-mark-items.result.now _ e c.loop-mark.invariant in
    class-edges c.args.edges.now c.loop-mark.edges c.args.copy.dfa.now c.args.copy.places.now c.args.from c.args.copy.base c.args.state c.args.class.now c.marks-mark-items.result.now c.states-states.ensures.automaton c.marks-mark-items.ensures h
