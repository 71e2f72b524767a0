use Rattle.std.proofs.Common.{◌≡◌, ◌-◌, ◌+◌, ◌*◌, ◌<◌, suc, get_or, ap, sym, subst, ◌∙◌, arith}
use Rattle.std.proofs.lemmas.Option.{get_or_from_slice_get}
use Rattle.distinct_items.specs.Search.{IsOpen, bits_of, slot_of}
use Rattle.distinct_items.proofs.SearchLemmas.{IsOnWay, way-end, way-step}
use Rattle.distinct_items.proofs.open_of.Goals as goal

pub returns-then-link-eq0 : goal.returns-then-link-eq0
returns-then-link-eq0 g c = λ x h.
    let f = bits_of g.T.Digested.root g.T.Digested.branch in
    let same = c.index-items-index.is ∙ get_or_from_slice_get c.args.items.now c.args.index x c.index-items-index.result h in
    subst (λ u. IsOpen f c.args.roots u c.args.index c.args.links.now c.way.slot) same
    (way-end f c.args.roots c.index-items-index.result c.args.index c.args.links.now c.way.depth c.way.slot c.way.invariant c.if-link-eq0.true)

pub way-smaller : goal.way-smaller
way-smaller g c = let later = c.requires.tree.later c.way.slot (get_or c.args.links.now c.way.slot 0 - 1) (omega (arith, c.if-link-eq0.false)) in omega (arith, later.0, later.1, c.requires.tree.few)

pub way-preserved : goal.way-preserved
way-preserved g c =
    let f = bits_of g.T.Digested.root g.T.Digested.branch in
    let j = get_or c.args.links.now c.way.slot 0 - 1 in
    let linked : get_or c.args.links.now c.way.slot 0 ≡ suc (get_or c.args.links.now c.way.slot 0 - 1) = omega (arith, c.if-link-eq0.false) in
    let t = c.index-items-index.result in
    let low : g.T.Digested.branch t c.way.depth < 2 = subst (λ b. b < 2) c.branch-slot.ensures.value c.branch-slot.ensures.bit in
    let next : slot_of f c.args.roots t j c.way.depth ≡ c.args.roots + 2 * j + c.branch-slot.result = ap (λ b. c.args.roots + 2 * j + b) (sym c.branch-slot.ensures.value) in
    subst (λ s. IsOnWay f c.args.roots t c.args.index c.args.links.now (c.way.depth + 1) s) next
    (way-step f c.args.roots t c.args.items.now c.args.index c.args.links.now c.way.depth c.way.slot j low c.requires.tree c.way.invariant linked)
