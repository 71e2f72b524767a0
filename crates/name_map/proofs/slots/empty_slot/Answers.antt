use Rattle.std.proofs.Common.{Some, None, sym, ap, ◌∙◌, arith}
use Rattle.std.specs.Option.{option_map}
use Rattle.name_map.specs.Kept.{indexed}
use Rattle.name_map.proofs.Index.{indexed-updated}
use Rattle.name_map.proofs.SlotLaws.{some_is, read, found, within, some-left, live-take, AreSlots-take}
use Rattle.name_map.proofs.slots.empty_slot.Goals as goal

pub overflow_add-slots : goal.overflow_add-slots
overflow_add-slots g c =
    let s = c.args.slots.now in
    omega (arith, some-left (indexed s.index.entries) s.items.items s.empty c.args.slot c.args.name.now c.requires.kept c.requires.there)

pub index_mut-requires : goal.index_mut-requires
index_mut-requires g c =
    let s = c.args.slots.now in
    let f = found (indexed s.index.entries) s.items.items s.empty c.args.slot c.args.name.now c.requires.kept c.requires.there in
    omega (arith, within s.items.items c.args.slot (Some f.0) f.1)

pub returns-clause-value : goal.returns-clause-value
returns-clause-value g c =
    let s = c.args.slots.now in
    let f = found (indexed s.index.entries) s.items.items s.empty c.args.slot c.args.name.now c.requires.kept c.requires.there in
    let taken = some_is (sym (read s.items.items c.args.slot c.index_mut.result.now (within s.items.items c.args.slot (Some f.0) f.1) c.index_mut.ensures.value) ∙ f.1) in
    ap (λ o. option_map (λ p. p.1) o) (c.take.ensures.value ∙ taken) ∙ sym f.3

pub returns-clause-rest : goal.returns-clause-rest
returns-clause-rest g c =
    let s = c.args.slots.now in
    rw c.take.ensures.after (live-take (indexed s.index.entries) s.items.items s.empty c.args.slot c.args.name.now c.requires.kept c.requires.there)

pub returns-clause-kept : goal.returns-clause-kept
returns-clause-kept g c =
    let s = c.args.slots.now in
    rw c.take.ensures.after (AreSlots-take (indexed s.index.entries) (indexed c.remove.new.self.entries) s.items.items s.empty c.args.slot c.args.name.now c.requires.kept c.requires.there (indexed-updated c.args.name.now s.index c.remove.new.self None c.remove.ensures.updates))
