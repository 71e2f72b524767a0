use Rattle.std.proofs.Common.{◌≡◌, ◌<◌, Some, arith, length, slice_get, get_or}
use Rattle.std.proofs.lemmas.Option.{slice_get-get_or}
use Rattle.marker_dfa.proofs.Lists.{contains_at}
use Rattle.marker_dfa.proofs.BySource.{marked_more, marked_end}
use Rattle.marker_dfa.proofs.exits.mark_all.Goals as goal

pub bounds-leaving-index : goal.bounds-leaving-index
bounds-leaving-index c =
    let n = c.loop-index.index-index in
    let t = get_or c.args.indices.now n 0 in
    let at : slice_get c.args.indices.now n ≡ Some t = slice_get-get_or c.args.indices.now n 0 c.loop-index-test.true in
    omega (arith, c.requires t (contains_at c.args.indices.now n t at), c.loop-index.invariant.size)

pub loop-index-preserved : goal.loop-index-preserved
loop-index-preserved c =
    let n = c.loop-index.index-index in
    let t = get_or c.args.indices.now n 0 in
    let at : slice_get c.args.indices.now n ≡ Some t = slice_get-get_or c.args.indices.now n 0 c.loop-index-test.true in
    let lt : t < length c.loop-index.leaving = omega (arith, c.requires t (contains_at c.args.indices.now n t at), c.loop-index.invariant.size) in
    marked_more c.args.leaving.now c.loop-index.leaving c.args.indices.now n t at lt c.loop-index.invariant

pub returns-clause-marked : goal.returns-clause-marked
returns-clause-marked c = marked_end c.args.leaving.now c.loop-index.leaving c.args.indices.now c.loop-index.index-index (omega (arith, c.loop-index-test.false, c.loop-index.auto.index-index-end)) c.loop-index.invariant
