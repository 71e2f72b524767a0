use Rattle.std.proofs.Common.{◌≡◌, ◌+◌, arith}
use Rattle.marker_dfa.specs.Deterministic.{states_of}
use Rattle.span_algebra.specs.Making.{IsEndOf}
use Rattle.span_algebra.proofs.EdgeLaws.{ok-by, adds-next, copied-ends}
use Rattle.span_algebra.proofs.copies.push_ends.Goals as goal

pub loop-state-preserved : goal.loop-state-preserved
loop-state-preserved c =
    adds-next _ _ _ (λ q. IsEndOf c.args.copy.dfa.now c.args.copy.places.now (c.args.copy.base + q) q) c.loop-state.state c.loop-state.invariant c.in_ok-push_state_ends.ensures

pub returns : goal.returns
returns c =
    let e : c.loop-state.state ≡ states_of c.args.copy.dfa.now = omega (arith, c.loop-state-test.false, c.loop-state.auto.state-end, c.states-state-end.ensures.value) in
    ok-by c.push_state_ends-2.result _ _ (λ h. copied-ends _ _ _ c.args.copy.dfa.now c.args.copy.places.now c.args.copy.base c.loop-state.state e c.loop-state.invariant h) c.push_state_ends-2.ensures
