use Rattle.std.proofs.Common.{◌≡◌, ◌<◌, ◌∙◌, Some, ap, arith, sym, length, slice_get, get_or}
use Rattle.std.proofs.lemmas.Option.{slice_get-get_or}
use Rattle.marker_dfa.proofs.Renumbering.{IsNumberOf, made_more, numbered}
use Rattle.marker_dfa.proofs.merging.numbering_of.Goals as goal

pub loop-representative-preserved : goal.loop-representative-preserved
loop-representative-preserved c =
    let into = c.args.into.now in
    let firsts = c.in_ok-firsts.firsts.numbers.items in
    let q = c.loop-representative.representative-index in
    let r = get_or into q 0 in
    let at : slice_get into q ≡ Some r = slice_get-get_or into q 0 c.loop-representative-test.true in
    let lt : r < length firsts = omega (arith, c.requires.within q r at, c.in_ok-firsts.ensures.size) in
    let number : slice_get firsts r ≡ Some c.index.result.now = slice_get-get_or firsts r c.index.result.now lt ∙ ap Some (sym c.index.ensures) in
    rw c.in_ok-push.ensures.items (made_more (IsNumberOf firsts) into q _ r _ at number c.loop-representative.invariant)

pub returns : goal.returns
returns c =
    let firsts = c.in_ok-firsts.ensures in
    numbered c.args.into.now _ _ _ c.loop-representative.representative-index (omega (arith, c.loop-representative-test.false, c.loop-representative.auto.representative-index-end)) c.requires.own firsts.few firsts.start firsts.number firsts.back c.loop-representative.invariant
