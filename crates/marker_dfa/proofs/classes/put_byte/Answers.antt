use Rattle.std.proofs.Common.{◌≡◌, arith, length}
use Rattle.marker_dfa.proofs.Splitting.{split_new}
use Rattle.marker_dfa.proofs.classes.put_byte.Goals as goal

pub returns : goal.returns
returns c =
    let e : c.index_among-index.result ≡ length c.args.split.now.firsts.items = omega (arith, c.if-index-len.false, c.len.ensures, c.index_among-index.ensures.within, c.deref.ensures.len, c.args.split.now.firsts.ok.0) in
    split_new c.args.classes.now c.args.split.now _ c.args.letters.now c.args.byte c.index_among-index.result c.requires.so_far e c.in_ok-push.ensures.items c.in_ok-push-2.ensures.items
