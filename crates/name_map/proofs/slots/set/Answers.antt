use Rattle.std.proofs.Common.{◌≡◌, Some, None, sym, ap, ◌∙◌, arith}
use Rattle.name_map.specs.Kept.{indexed, live}
use Rattle.name_map.proofs.SlotLaws.{found, within, live-set, AreSlots-set, live-push, AreSlots-push, by-result, on-ok}
use Rattle.name_map.proofs.slots.set.Goals as goal

pub index_mut-requires : goal.index_mut-requires
index_mut-requires g c =
    let s = c.args.slots.now in
    let at : indexed s.index.entries c.args.name ≡ Some c.in-Some.slot = ap (indexed s.index.entries) (sym c.bytes.ensures.value) ∙ sym c.in-Some.ensures in
    let f = found (indexed s.index.entries) s.items.items s.empty c.in-Some.slot c.args.name c.requires at in
    omega (arith, within s.items.items c.in-Some.slot (Some f.0) f.1)

pub returns-in-Some-clause-ok : goal.returns-in-Some-clause-ok
returns-in-Some-clause-ok g c =
    let s = c.args.slots.now in
    let at : indexed s.index.entries c.args.name ≡ Some c.in-Some.slot = ap (indexed s.index.entries) (sym c.bytes.ensures.value) ∙ sym c.in-Some.ensures in
    live-set (indexed s.index.entries) s.items.items s.empty c.in-Some.slot c.args.name c.args.value c.requires at

pub returns-in-Some-clause-kept : goal.returns-in-Some-clause-kept
returns-in-Some-clause-kept g c =
    let s = c.args.slots.now in
    let at : indexed s.index.entries c.args.name ≡ Some c.in-Some.slot = ap (indexed s.index.entries) (sym c.bytes.ensures.value) ∙ sym c.in-Some.ensures in
    AreSlots-set (indexed s.index.entries) s.items.items s.empty c.in-Some.slot c.args.name c.args.value c.requires at

pub returns-in-None-clause-ok : goal.returns-in-None-clause-ok
returns-in-None-clause-ok g c =
    let s = c.args.slots.now in
    let at : indexed s.index.entries c.args.name ≡ None = ap (indexed s.index.entries) (sym c.bytes.ensures.value) ∙ sym c.in-None.ensures in
    on-ok c.push.result c.push.ensures.items (λ same. ap live same ∙ live-push (indexed s.index.entries) s.items.items s.empty c.args.name c.args.value c.requires at)

pub returns-in-None-clause-kept : goal.returns-in-None-clause-kept
returns-in-None-clause-kept g c =
    let s = c.args.slots.now in
    let t = c.push.new.slots in
    let at : indexed s.index.entries c.args.name ≡ None = ap (indexed s.index.entries) (sym c.bytes.ensures.value) ∙ sym c.in-None.ensures in
    by-result c.push.result c.push.ensures.items c.push.ensures.index c.push.ensures.items_err c.push.ensures.index_err
    (λ items index. rw (items, c.push.ensures.empty) (AreSlots-push (indexed s.index.entries) (indexed t.index.entries) s.items.items s.empty c.args.name c.args.value c.requires at index))
    (λ items index. rw (items, index, c.push.ensures.empty) c.requires)
