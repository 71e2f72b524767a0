use Rattle.std.proofs.Common.{◌≡◌, ◌≤◌, Some, arith, get_or, length, slice_get}
use Rattle.std.proofs.lemmas.Option.{slice_get-get_or}
use Rattle.marker_dfa.proofs.Lists.{contains_at}
use Rattle.marker_dfa.proofs.BySource.{gains_start, gains_more, gains_end}
use Rattle.marker_dfa.proofs.bundles.put_index.Goals as goal

pub loop-source-init : goal.loop-source-init
loop-source-init c = gains_start c.args.by_source.now c.args.sources.now c.args.index

pub put_index_at-requires : goal.put_index_at-requires
put_index_at-requires c =
    let sources = c.args.sources.now in
    let k = c.loop-source.source-index in
    let at : slice_get sources k ≡ Some (get_or sources k 0) = slice_get-get_or sources k 0 c.loop-source-test.true in
    let lt = c.requires (get_or sources k 0) (contains_at sources k (get_or sources k 0) at) in
    omega (arith, lt, c.loop-source.invariant.size)

pub loop-source-preserved : goal.loop-source-preserved
loop-source-preserved c =
    let sources = c.args.sources.now in
    let k = c.loop-source.source-index in
    let at : slice_get sources k ≡ Some (get_or sources k 0) = slice_get-get_or sources k 0 c.loop-source-test.true in
    gains_more c.args.by_source.now c.loop-source.by_source c.put_index_at.new.by_source sources c.args.index k (get_or sources k 0) at c.in_ok-put_index_at.ensures c.loop-source.invariant

pub returns : goal.returns
returns c =
    let le : length c.args.sources.now ≤ c.loop-source.source-index = omega (arith, c.loop-source-test.false) in
    gains_end c.args.by_source.now c.loop-source.by_source c.args.sources.now c.args.index c.loop-source.source-index le c.loop-source.invariant
