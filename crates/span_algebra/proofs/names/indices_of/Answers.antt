use Rattle.span_algebra.proofs.PlaceLaws.{places-next}
use Rattle.span_algebra.proofs.names.indices_of.Goals as goal

pub loop-v-preserved : goal.loop-v-preserved
loop-v-preserved c = places-next c.args.to.now c.args.from.now c.loop-v.v c.name.result.now c.loop-v.places.items _ c.position_of.result c.position_of.ensures.vars c.name.ensures c.in_ok-push.ensures.items c.position_of.ensures.index c.loop-v.invariant
