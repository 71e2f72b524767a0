use Rattle.std.proofs.Common.{arith}
use Rattle.std.proofs.lemmas.Option.{slice_get-get_or}
use Rattle.marker_dfa.proofs.Bundling.{all_readers_more, all_bytes}
use Rattle.marker_dfa.proofs.bundles.readers_by_byte.Goals as goal

pub loop-byte-preserved : goal.loop-byte-preserved
loop-byte-preserved c =
    let at = slice_get-get_or c.args.bytes.now c.loop-byte.byte-index 0 c.loop-byte-test.true in
    rw (c.in_ok-push.ensures.items) (all_readers_more c.args.bundles.now c.args.bytes.now c.loop-byte.byte-index _ _ _ at c.loop-byte.invariant c.in_ok-readers.ensures.readers c.in_ok-readers.ensures.byte)

pub returns-clause-bytes : goal.returns-clause-bytes
returns-clause-bytes c = all_bytes c.args.bundles.now c.args.bytes.now c.loop-byte.byte-index _ (omega (arith, c.loop-byte-test.false, c.loop-byte.auto.byte-index-end)) c.loop-byte.invariant
