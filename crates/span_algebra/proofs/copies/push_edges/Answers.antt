use Rattle.std.proofs.Common.{◌≡◌, ◌+◌, arith}
use Rattle.marker_dfa.specs.Deterministic.{states_of}
use Rattle.span_algebra.specs.Making.{IsEdgeAmong}
use Rattle.span_algebra.proofs.EdgeLaws.{ok-by, adds-next, copied-edges}
use Rattle.span_algebra.proofs.copies.push_edges.Goals as goal

pub loop-state-preserved : goal.loop-state-preserved
loop-state-preserved c =
    adds-next _ _ _ (λ q. IsEdgeAmong c.args.copy.dfa.now c.args.copy.places.now (c.args.copy.base + q) c.args.copy.base q c.args.classes.now) c.loop-state.state c.loop-state.invariant c.in_ok-push_state.ensures

pub returns : goal.returns
returns c =
    let e : c.loop-state.state ≡ states_of c.args.copy.dfa.now = omega (arith, c.loop-state-test.false, c.loop-state.auto.state-end, c.states-state-end.ensures.value) in
    ok-by c.push_state-2.result _ _ (λ h. copied-edges _ _ _ c.args.copy.dfa.now c.args.copy.places.now c.args.copy.base c.loop-state.state c.args.classes.now e c.loop-state.invariant h) c.push_state-2.ensures
