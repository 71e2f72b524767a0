use Rattle.std.proofs.Common.{Some, sym, ap, ◌∙◌, arith}
use Rattle.name_map.specs.Named.{value_of}
use Rattle.name_map.specs.Kept.{indexed}
use Rattle.name_map.proofs.SlotLaws.{some_is, read, found, within}
use Rattle.name_map.proofs.NameMap.get.Goals as goal

pub index-requires : goal.index-requires
index-requires g c =
    let s = c.self.inside.slots in
    let f = found (indexed s.index.entries) s.items.items s.empty c.in-Some.slot c.args.name.now c.self.invariant (sym c.in-Some.ensures) in
    omega (arith, within s.items.items c.in-Some.slot (Some f.0) f.1)

pub returns-in-Some-index : goal.returns-in-Some-index
returns-in-Some-index g c =
    let s = c.self.inside.slots in
    let f = found (indexed s.index.entries) s.items.items s.empty c.in-Some.slot c.args.name.now c.self.invariant (sym c.in-Some.ensures) in
    let same = some_is (sym c.in-Some-index.is ∙ some_is (sym (read s.items.items c.in-Some.slot c.index.result.now (within s.items.items c.in-Some.slot (Some f.0) f.1) c.index.ensures) ∙ f.1)) in
    ap (λ p. Some p.1) same ∙ (sym f.3 ∙ ap (λ ps. value_of ps c.args.name.now) c.self.view_is)

pub returns-in-None-index : goal.returns-in-None-index
returns-in-None-index g c =
    let s = c.self.inside.slots in
    let f = found (indexed s.index.entries) s.items.items s.empty c.in-Some.slot c.args.name.now c.self.invariant (sym c.in-Some.ensures) in
    let bad : ⊥ = cc (sym c.in-None-index.is ∙ some_is (sym (read s.items.items c.in-Some.slot c.index.result.now (within s.items.items c.in-Some.slot (Some f.0) f.1) c.index.ensures) ∙ f.1)) in
    absurd bad
