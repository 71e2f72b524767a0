use Rattle.query_commands.proofs.Names.{arith, refl}
use Rattle.query_commands.proofs.Facts.{passed, sent_on, stops, tuples_end, tuples_left}
use Rattle.query_commands.proofs.all_listing.write_tuples.Goals as goal

pub loop-tuple-preserved : goal.loop-tuple-preserved
loop-tuple-preserved g c = sent_on _ _ _ (tuples_left _ _ c.loop-tuple.tuple-index _ c.tuple-item.is c.loop-tuple-test.true c.loop-tuple.invariant) refl c.in_ok-write_tuple.ensures.wrote

pub returns-in_err-write_tuple : goal.returns-in_err-write_tuple
returns-in_err-write_tuple g c =
    passed _ _ _ _ c.from_residual.ensures.1 (stops _ _ _ (tuples_left _ _ c.loop-tuple.tuple-index _ c.tuple-item.is c.loop-tuple-test.true c.loop-tuple.invariant) refl c.in_err-write_tuple.ensures.wrote)

pub returns : goal.returns
returns g c = tuples_end _ _ c.loop-tuple.tuple-index (omega (arith, c.loop-tuple-test.false)) c.loop-tuple.invariant
