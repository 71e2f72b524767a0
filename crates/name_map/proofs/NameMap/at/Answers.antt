use Rattle.std.proofs.Common.{Some, sym, ap, ◌∙◌, slice_get}
use Rattle.std.specs.Option.{option_copied}
use Rattle.name_map.proofs.SlotLaws.{some_is, read, within, slot-get}
use Rattle.name_map.proofs.NameMap.at.Goals as goal

pub returns : goal.returns
returns g c =
    let os = c.self.inside.slots.items.items in
    let slot = c.slot_of-slot.ensures in
    let same = some_is (ap option_copied (sym c.unwrap-named.ensures) ∙ c.as_ref.ensures.value ∙ some_is (sym (read os c.slot_of-slot.result c.index.result.now (within os c.slot_of-slot.result (Some slot.pair) slot.there) c.index.ensures) ∙ slot.there)) in
    ap (λ ps. slice_get ps c.args.index) (sym c.self.view_is) ∙ (slot-get os c.args.index c.slot_of-slot.result slot ∙ ap (λ p. Some p) (sym same))
