use Rattle.span_enum.proofs.Base.{[], ap, arith, height_limit, length, refl, sym, whole_text, word_over, ◌*◌, ◌≤◌}
use Rattle.span_enum.proofs.Kept.{kept-few}
use Rattle.span_enum.proofs.Roots.{fresh-behind}
use Rattle.span_enum.proofs.Words.{looks-within}
use Rattle.span_enum.proofs.enumeration.follow_whole.Goals as goal

pub follow-requires : goal.follow-requires
follow-requires g c =
    let fresh = c.requires.fresh in
    (omega (arith, c.requires.input.narrow), (omega (arith, c.requires.input.narrow), (c.requires.input, (c.requires.tuple, (c.requires.end, ((fresh.chain, record { word = []; behind = rw c.len.ensures.value (fresh-behind c.args.input.now _ _ _ fresh refl); word_is = ap (word_over c.args.t.now 1) (sym fresh.text_is) }), c.requires.room))))))

pub returns-clause-cost : goal.returns-clause-cost
returns-clause-cost g c =
    let input = c.args.input.now in
    let t = c.args.t.now in
    let k = input.dfa.now.variables in
    let f = c.follow.ensures.followed in
    let few : f.more ≤ 2 * k = omega (arith, f.count, kept-few input t k f.trail.count f.trail.read f.trail.left _ _ c.requires.tuple f.trail.word_is f.trail.kept) in
    let n = length (whole_text input) in
    looks-within k n (height_limit n) f.more c.args.looks.now c.follow.new.looks (omega arith) few (omega (arith, f.cost))
