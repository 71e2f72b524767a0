use Rattle.std.proofs.Common.{◌≡◌, Some, get_or, slice_get}
use Rattle.std.proofs.lemmas.Option.{slice_get-get_or}
use Rattle.marker_dfa.proofs.BySource.{gains_one}
use Rattle.marker_dfa.proofs.bundles.put_index_at.Goals as goal

pub returns : goal.returns
returns c =
    let mid = c.args.by_source.now in
    let q = c.args.source in
    let v = get_or mid q c.index-by_source-source.result in
    let at : slice_get mid q ≡ Some v = slice_get-get_or mid q c.index-by_source-source.result c.requires in
    gains_one mid c.args.index q v c.push.new.self at c.in_ok-push.ensures.items
