use Rattle.std.proofs.Common.{refl, sym, ap, ◌∙◌, Some, slice_get}
use Rattle.std.specs.Option.{option_map, option_copied_mut}
use Rattle.name_map.specs.Named.{with_value}
use Rattle.name_map.specs.Kept.{indexed}
use Rattle.name_map.proofs.SlotLaws.{some_is, read, within, slot-get, slot-with_value, AreSlots-with_value}
use Rattle.name_map.proofs.NameMap.value_mut.Goals as goal

pub invariant_of-self-lent : goal.invariant_of-self-lent
invariant_of-self-lent g c =
    let s = c.self.inside.slots in
    let os = s.items.items in
    let k = c.slot_of-slot.result in
    let slot = c.slot_of-slot.ensures in
    let at = read os k c.index_mut.result.now (within os k (Some slot.pair) slot.there) c.index_mut.ensures.value ∙ ap (λ o. Some o) (sym c.as_mut.ensures.value ∙ ap option_copied_mut c.unwrap-named.ensures) in
    λ w. AreSlots-with_value (indexed s.index.entries) os s.empty c.args.index k c.unwrap-named.result.now w c.self.invariant at slot.before_it

pub returns : goal.returns
returns g c =
    let os = c.self.inside.slots.items.items in
    let k = c.slot_of-slot.result in
    let slot = c.slot_of-slot.ensures in
    let at = read os k c.index_mut.result.now (within os k (Some slot.pair) slot.there) c.index_mut.ensures.value ∙ ap (λ o. Some o) (sym c.as_mut.ensures.value ∙ ap option_copied_mut c.unwrap-named.ensures) in
    let named = some_is (some_is (sym slot.there ∙ at)) in (
      (refl, λ w. slot-with_value os c.args.index k c.unwrap-named.result.now w at slot.before_it ∙ ap (λ ps. with_value ps c.args.index w) c.self.view_is),
      record {
        writes_back = tt;
        value = ap (λ ps. option_map (λ p. p.1) (slice_get ps c.args.index)) (sym c.self.view_is) ∙ ap (λ o. option_map (λ p. p.1) o) (slot-get os c.args.index k slot ∙ ap (λ p. Some p) named);
      },
    )
