use Rattle.std.proofs.Common.{sym, ap, subst, ◌∙◌, Some}
use Rattle.std.proofs.lemmas.List.{take_all}
use Rattle.name_map.specs.Named.{AreDistinctNames}
use Rattle.name_map.specs.Kept.{indexed, live}
use Rattle.name_map.proofs.SlotLaws.{read, names-distinct, copy-some, copy-none}
use Rattle.name_map.proofs.NameMap.copy.Goals.{in-Some+in_ok-copy+in_ok-set, in_default}
use Rattle.name_map.proofs.NameMap.copy.Goals as goal

pub loop-held-preserved : goal.loop-held-preserved
loop-held-preserved g c =
    let s = c.self.inside.slots in
    let os = c.deref-held-items.result.now in
    let k = c.loop-held.held-index in
    let d = subst (λ row. AreDistinctNames (live row)) (sym c.deref-held-items.ensures.value) (names-distinct (indexed s.index.entries) s.items.items s.empty c.self.invariant) in
    let at = read os k c.held-item.result c.loop-held-test.true c.held-item.is in
    elim c.match-held.branch [
      | in-Some+in_ok-copy+in_ok-set w ↦ w.copy-is ∙ copy-some os k w.in-Some.named w.in_ok-copy.field-0 c.loop-held.copy w.set.new.self d (at ∙ ap (λ o. Some o) w.in-Some.is) c.loop-held.invariant w.in_ok-copy.ensures w.in_ok-set.ensures.ok
      | in_default w ↦ w.copy-is ∙ copy-none os k c.loop-held.copy (at ∙ ap (λ o. Some o) w.in_default.is) c.loop-held.invariant
    ]

pub returns : goal.returns
returns g c =
    let os = c.deref-held-items.result.now in
    c.loop-held.invariant ∙ (ap live (take_all c.loop-held.held-index os c.loop-held-test.false ∙ c.deref-held-items.ensures.value) ∙ c.self.view_is)
