use Rattle.std.proofs.Common.{◌≡◌, ◌≢◌, ◌-◌, ◌+◌, ◌*◌, ◌<◌, suc, length, get_or, slice_get, Some, refl, ap, sym, subst, ◌∙◌, arith}
use Rattle.std.proofs.lemmas.Option.{slice_get-get_or, get_or_from_slice_get}
use Rattle.distinct_items.specs.Search.{bits_of, slot_of}
use Rattle.distinct_items.proofs.SearchLemmas.{IsOnWay, IsAhead, way-step, way-end, ahead-step, absent-end}
use Rattle.distinct_items.proofs.end_of.Goals as goal

pub returns-then-link-eq0 : goal.returns-then-link-eq0
returns-then-link-eq0 g c = (
  absent-end (bits_of g.T.Digested.root g.T.Digested.branch) c.args.roots c.args.item.now c.args.items.now c.args.links.now c.way.depth c.way.slot c.way.invariant.ahead c.if-link-eq0.true,
  way-end (bits_of g.T.Digested.root g.T.Digested.branch) c.args.roots c.args.item.now (length c.args.items.now) c.args.links.now c.way.depth c.way.slot c.way.invariant.way c.if-link-eq0.true,
)

pub bounds-items-index : goal.bounds-items-index
bounds-items-index g c =
    let linked : get_or c.args.links.now c.way.slot 0 ≡ suc (get_or c.args.links.now c.way.slot 0 - 1) = omega (arith, c.if-link-eq0.false) in
    (c.requires.tree.later c.way.slot (get_or c.args.links.now c.way.slot 0 - 1) linked).1

pub offset_bounds-items-index : goal.offset_bounds-items-index
offset_bounds-items-index g c =
    let linked : get_or c.args.links.now c.way.slot 0 ≡ suc (get_or c.args.links.now c.way.slot 0 - 1) = omega (arith, c.if-link-eq0.false) in
    omega (arith, (c.requires.tree.later c.way.slot (get_or c.args.links.now c.way.slot 0 - 1) linked).1)

pub returns-then-is_same : goal.returns-then-is_same
returns-then-is_same g c =
    let j = get_or c.args.links.now c.way.slot 0 - 1 in
    let linked : get_or c.args.links.now c.way.slot 0 ≡ suc (get_or c.args.links.now c.way.slot 0 - 1) = omega (arith, c.if-link-eq0.false) in
    let within = (c.requires.tree.later c.way.slot j linked).1 in
    let same = c.if-is_same.ensures.0 refl in
    slice_get-get_or c.args.items.now j c.index-items-index.result within ∙ ap Some (sym c.index-items-index.is ∙ same)

pub way-smaller : goal.way-smaller
way-smaller g c = let later = c.requires.tree.later c.way.slot (get_or c.args.links.now c.way.slot 0 - 1) (omega (arith, c.if-link-eq0.false)) in omega (arith, later.0, later.1, c.requires.tree.few)

pub way-preserved : goal.way-preserved
way-preserved g c =
    let j = get_or c.args.links.now c.way.slot 0 - 1 in
    let t = c.args.item.now in
    let linked : get_or c.args.links.now c.way.slot 0 ≡ suc (get_or c.args.links.now c.way.slot 0 - 1) = omega (arith, c.if-link-eq0.false) in
    let low : g.T.Digested.branch t c.way.depth < 2 = subst (λ b. b < 2) c.branch-slot.ensures.value c.branch-slot.ensures.bit in
    let next : slot_of (bits_of g.T.Digested.root g.T.Digested.branch) c.args.roots t j c.way.depth ≡ c.args.roots + 2 * j + c.branch-slot.result = ap (λ b. c.args.roots + 2 * j + b) (sym c.branch-slot.ensures.value) in
    let other : slice_get c.args.items.now j ≢ Some t = λ h.
    let read = c.index-items-index.is ∙ get_or_from_slice_get c.args.items.now j t c.index-items-index.result h in
    let truth = c.if-is_same.ensures.1 read in
    cc in
    record {
      way = subst (λ s. IsOnWay (bits_of g.T.Digested.root g.T.Digested.branch) c.args.roots t (length c.args.items.now) c.args.links.now (c.way.depth + 1) s) next
          (way-step (bits_of g.T.Digested.root g.T.Digested.branch) c.args.roots t c.args.items.now (length c.args.items.now) c.args.links.now c.way.depth c.way.slot j low c.requires.tree c.way.invariant.way linked);
      ahead = subst (λ s. IsAhead (bits_of g.T.Digested.root g.T.Digested.branch) c.args.roots t c.args.items.now c.args.links.now (c.way.depth + 1) s) next
          (ahead-step (bits_of g.T.Digested.root g.T.Digested.branch) c.args.roots t c.args.items.now c.args.links.now c.way.depth c.way.slot j c.way.invariant.ahead linked other);
    }
