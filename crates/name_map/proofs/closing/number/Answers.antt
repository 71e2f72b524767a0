use Rattle.std.proofs.Common.{rules, Some, None, sym, ap, ◌∙◌, true≢false}
use Rattle.name_map.proofs.Index.{numbered}
use Rattle.name_map.proofs.SlotLaws.{some_is, read}
use Rattle.name_map.proofs.closing.number.Goals as goal

pub returns-in-Some-get_mut-clause-numbered : goal.returns-in-Some-get_mut-clause-numbered
returns-in-Some-get_mut-clause-numbered g c = λ p at other.
    let k = c.args.slot in
    let named = some_is (sym c.in-Some.is ∙ some_is (sym (read c.args.slots.now.items.items k c.index.result.now c.requires c.index.ensures) ∙ at)) in
    numbered c.bytes.result.now p c.args.slots.now.index (c.get_mut.follows.lender k) k (Some c.in-Some-get_mut.number.now) (c.bytes.ensures.value ∙ ap (λ x. x.0) named) c.in-Some-get_mut.ensures.value (λ _. (c.get_mut.follows.holds k).3 (search rules)) tt other

pub returns-in-None-get_mut-clause-numbered : goal.returns-in-None-get_mut-clause-numbered
returns-in-None-get_mut-clause-numbered g c = λ p at other.
    let k = c.args.slot in
    let named = some_is (sym c.in-Some.is ∙ some_is (sym (read c.args.slots.now.items.items k c.index.result.now c.requires c.index.ensures) ∙ at)) in
    numbered c.bytes.result.now p c.args.slots.now.index c.get_mut.follows.lender-at-none k None (c.bytes.ensures.value ∙ ap (λ x. x.0) named) c.in-None-get_mut.ensures.value (λ z. absurd (true≢false (sym z))) (search rules) other

pub returns-in-None-clause-numbered : goal.returns-in-None-clause-numbered
returns-in-None-clause-numbered g c = λ p at other.
    let bad : ⊥ = cc (sym c.in-None.is ∙ some_is (sym (read c.args.slots.now.items.items c.args.slot c.index.result.now c.requires c.index.ensures) ∙ at)) in
    absurd bad
